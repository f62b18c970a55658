pub mod Arms
