mod CallLaws
mod NameFacts
