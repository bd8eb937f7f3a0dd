mod FieldFacts
mod PartFacts
mod RowLaws
mod Taking
