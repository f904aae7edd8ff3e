pub mod PutHeads
