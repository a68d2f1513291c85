pub mod NumberedReport
