pub mod FaultOrder
pub mod LaidOut
pub mod OnLiterals
pub mod Pages
pub mod RuleKinds
pub mod Tables
