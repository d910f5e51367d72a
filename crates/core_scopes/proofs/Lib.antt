pub mod SameFunctions
pub mod Distinct
pub mod ScopeLoops
pub mod Binding
pub mod Gathering
pub mod ScopeLaws
pub mod ScopeFaultLaws
pub mod ClosedModules
