mod CountLaws
mod FileLaws
mod IndexLaws
mod NameFacts
