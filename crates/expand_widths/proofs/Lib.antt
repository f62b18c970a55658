pub mod Thrice
