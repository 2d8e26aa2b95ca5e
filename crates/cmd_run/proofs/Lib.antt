pub mod WalkRuns
