pub mod Deliveries
pub mod RunRows
