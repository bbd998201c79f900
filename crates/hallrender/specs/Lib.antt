pub mod ProgramRun
pub mod RunResults
