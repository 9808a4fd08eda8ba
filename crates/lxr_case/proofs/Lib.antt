mod PartLemmas
mod ItemLemmas
