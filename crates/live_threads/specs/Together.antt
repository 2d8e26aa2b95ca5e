-- What became of nodes that live side by side.
pub use Rattle.live_turns.specs.Together.{AreTogether}
