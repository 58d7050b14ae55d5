pub mod AskableLaws
