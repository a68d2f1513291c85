pub mod ExerciseAnswer
