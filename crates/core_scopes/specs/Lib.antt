pub mod Outcomes
pub mod Scopes
pub mod ScopeFaults
pub mod ScopeChecks
pub mod Drafts
pub mod inside
