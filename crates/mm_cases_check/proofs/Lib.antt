mod CallLaws
mod LoadLaws
mod NameFacts
