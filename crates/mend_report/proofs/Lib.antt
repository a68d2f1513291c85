pub mod NumberedReport
pub mod ReportPut
