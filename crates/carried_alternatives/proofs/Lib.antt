pub mod NumberedBack
pub mod ForgottenNumbers
pub mod CarriedOver
