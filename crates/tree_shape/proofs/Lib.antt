mod Growing
mod Spans
