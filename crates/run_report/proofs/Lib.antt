pub mod ActorEvents
pub mod Actors
pub mod AdmittedRecords
pub mod AtEnd
pub mod Begins
pub mod Begun
mod Ending
pub mod EventLegal
pub mod EventNames
pub mod Events
mod Followed
mod Good
pub mod Kept
mod Legal
mod HeldBack
mod Lines
pub mod Lists
pub mod Looks
pub mod Pairs
pub mod PartsLegal
pub mod Passages
mod Rows
pub mod LineWords
pub mod Words
pub mod ViewWords
pub mod RowsBack
pub mod ViewBack
pub mod AnswersBack
pub mod MutationsBack
pub mod NamesBack
pub mod ListsBack
pub mod MountsBack
pub mod StepsBack
pub mod RecordsBack
pub mod JournalBack
pub mod LegalTold
pub mod Runs
pub mod Surfaces
pub mod Together
pub mod Turns
mod States
pub mod RecordCounts
pub mod CellsInRange
pub mod RevisionsInRange
pub mod ViewsInRange
pub mod MutationsInRange
pub mod TreesInRange
pub mod CausesInRange
pub mod AnswersInRange
pub mod PassagesInRange
pub mod JournalsInRange
