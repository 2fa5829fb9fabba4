-- What a report makes of the rows (`krl_table/specs/Reports`).
pub mod PieceByPiece
pub mod Rising
pub mod Ordered
