pub mod RuleMethods
pub mod Laws
