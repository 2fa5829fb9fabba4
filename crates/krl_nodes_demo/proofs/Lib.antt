mod Sent
mod RunRows
mod Goings
