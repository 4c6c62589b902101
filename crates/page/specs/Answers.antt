-- What a call with a page hands back.
use Rattle.std.specs.Prelude.{ℕ, List, Result, Ok, Err}
use Rattle.rules.specs.Answer.{accepted}
use Rattle.page_rules.specs.Page.{Page, PageIssued, PageResult}
use Rattle.codec.specs.Answers.{answer_by, delivered}
use Rattle.codec.specs.declared.answer.Delivered.{Delivered}
use Rattle.codec.specs.declared.answer.Refusal.{Refusal}
use Rattle.page.specs.declared.answer.Paged.{Paged}

-- how many ops a call took back; a refusal takes none
abbrev pub taken_by : {T : Type 0} → Result (Paged T) Refusal → ℕ
taken_by (Ok x) = x.taken
taken_by (Err why) = 0

-- with the buffer and the page after the call, and the bytes lent for an issued op
abbrev pub result_of : Result (Paged Delivered) Refusal → (buffer : List ℕ) → Page → PageResult
result_of r f p = record { answer = answer_by (λ x. delivered x.answer) r; taken = taken_by r; buffer = f; page = p }

abbrev pub issued_of : Result (Paged ℕ) Refusal → (buffer out : List ℕ) → Page → PageIssued
issued_of r f out p = record { answer = answer_by (λ x. accepted x.answer) r; taken = taken_by r; buffer = f; out = out; page = p }
