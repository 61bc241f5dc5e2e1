pub mod Following
pub mod Harvests
pub mod Log
pub mod RoundsOf
pub mod RunKept
pub mod Sound
pub mod Standing
