pub mod Rgb640
