pub mod FirstFields
pub mod RecordsTold
pub mod WrittenPaths
pub mod SetsTold
pub mod EntriesTold
pub mod ReadAs
pub mod OneReading
pub mod RunsBack
