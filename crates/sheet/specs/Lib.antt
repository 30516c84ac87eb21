-- The definitions of the crate `sheet`, in the order of the rules: the board sheet (Text, Number, Table, Record), what turns a board away (Reading),
-- what the calls answer (Answer), what accepted rows hold (Range), the sheet walker's places (Places), how the calls inside go along a text (Walk), the plan
-- sheet's numbers (Written), worked examples (Examples).
pub mod Text
pub mod Number
pub mod Table
pub mod Record
pub mod Reading
pub mod Answer
pub mod Range
pub mod Places
pub mod Walk
pub mod Written
pub mod Examples
