pub mod Fans
