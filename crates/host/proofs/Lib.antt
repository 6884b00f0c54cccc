-- No second outcome fits what a host is handed.
pub mod Once
