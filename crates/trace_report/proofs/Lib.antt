pub mod ReportLaws
mod OneReport
