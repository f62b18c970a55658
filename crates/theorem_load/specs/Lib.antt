pub mod Load
pub mod CallToCall
