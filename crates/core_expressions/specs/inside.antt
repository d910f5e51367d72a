pub mod FormView
