pub mod Chains
pub mod Patterns
pub mod RuleParts
pub mod Rules
pub mod Series
pub mod Text
pub mod Turns
