pub mod Calms
