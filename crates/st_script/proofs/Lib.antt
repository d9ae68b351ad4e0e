mod RecordLemmas
mod AnswerLemmas
