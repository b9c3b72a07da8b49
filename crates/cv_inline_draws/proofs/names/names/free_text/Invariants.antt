use Rattle.std.proofs.Common.{◌≡◌, ◌+◌, ◌-◌, length}
use Rattle.cv_inline.specs.Draws.{is_among, least_free, numbered_text}
use Rattle.cv_inline_draws.specs.names.Texts.{text_at, texts_at}
use Rattle.cv_inline_draws.proofs.names.names.free_text.Given as goal

abbrev pub invariant-tries : goal.invariant-tries
invariant-tries l = record {
  number : l.number ≡ l.from + l.index;
  least : least_free (λ k. is_among (texts_at l.names l.taken) (numbered_text (text_at l.names l.base) k)) (length l.taken - l.index) l.number ≡ least_free (λ k. is_among (texts_at l.names l.taken) (numbered_text (text_at l.names l.base) k)) (length l.taken) l.from;
}
