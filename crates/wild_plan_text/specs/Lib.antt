pub mod Letters
pub use Rattle.wild_plan_spec.specs.FaultText
pub use Rattle.wild_plan_spec.specs.Text
