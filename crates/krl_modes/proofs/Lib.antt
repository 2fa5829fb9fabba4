pub mod Basics
pub mod Tables
pub mod Weights
pub mod PartLaws
pub mod ModeLaws
pub mod SpanLaws
pub mod Crosses
