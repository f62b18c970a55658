pub mod Ms622424
