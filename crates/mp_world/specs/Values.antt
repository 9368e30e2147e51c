-- The values of a heuristic.
pub use Rattle.mp_task.specs.Values.{Values}
