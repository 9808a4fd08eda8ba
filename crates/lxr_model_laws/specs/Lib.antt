pub mod OnceLaws
pub mod ReportLaws
pub mod UnreclaimedLaws
pub mod ScriptLaws
