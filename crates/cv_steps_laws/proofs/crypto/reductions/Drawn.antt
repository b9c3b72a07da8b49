-- The table of what is drawn for a reduction has names and labels of its next game.
use Rattle.std.proofs.Common.{◌≡◌, ℕ, ◌<◌, ◌≤◌, ◌^◌, Bool, true, false, ◌&&◌, ◌||◌, not, ◌==◌, List, [], ◌∷◌, All, length, take, refl, sym, ap, ap₂, ◌∙◌, arith}
use Rattle.std.proofs.lemmas.Bool.{both_ways, false_from_ne_true, or_from}
use Rattle.std.proofs.lemmas.Bool.Decides.{nat_tests}
use Rattle.std.proofs.lemmas.List.{length-map}
use Rattle.std.proofs.lemmas.List.Elements.{All-head, All-tail}
use Rattle.std.specs.List.{AllByRecursion, list_any}
use Rattle.cv_scene.specs.Reductions.{Reduction, context_of_game}
use Rattle.cv_scene.specs.Scenes.{is_new, names}
use Rattle.cv_meaning.specs.contexts.Inlined.{Drawn}
use Rattle.cv_inline.specs.Draws.{Draw, drawn_texts}
use Rattle.cv_inline.specs.NextGame.{next_of}
use Rattle.cv_inline_draws.specs.names.Texts.{is_listed, text_at, texts_at}
use Rattle.cv_inline_draws.proofs.names.Texts.{texts_at_kept}
use Rattle.cv_inline_draws.specs.names.Fresh.{IsDrawnFor, bases_of}
use Rattle.cv_match_laws.specs.answers.Drawn.{draws, finds}
use Rattle.cv_steps_laws.specs.crypto.reductions.Tables.{AreTaken, GivesNextGame, labels}
use Rattle.cv_steps_laws.proofs.crypto.reductions.Tables.{apart, many, names_kept, new}

other : (y n k : ℕ) → y < n → n ≤ k → (y == k) ≡ false
other y n k f g = grind (arith, nat_tests)

no_answer : (n k : ℕ) (xs : List ℕ) → All (λ x. x < n) xs → n ≤ k → list_any (λ y. y == k) xs ≡ false
no_answer n k [] f g = refl
no_answer n k (x ∷ xs) f g = or_from (x == k) _ (other x n k (All-head (λ y. y < n) x xs f) g) (no_answer n k xs (All-tail (λ y. y < n) x xs f) g)

module _ (r : Reduction) (before after : List (List ℕ)) (taken : List ℕ) (d : Drawn) (t : AreTaken r.scene (length before) taken) (few : length after ≤ 2 ^ 32) (room : length taken ≤ 2 ^ 64) (above : (k : ℕ) → length after ≤ r.answer k)
    (i : IsDrawnFor before after taken (draws r) (finds r) (labels r) d) where
  abbrev bases : List (List ℕ)
  bases = texts_at before (bases_of (draws r))

  many_bases : length bases ≡ length (draws r)
  many_bases = length-map (bases_of (draws r)) (text_at before) ∙ length-map (draws r) (λ (d : Draw). d.base)

  kept : take (length before) after ≡ before
  kept = ap (take (length before)) i.added ∙ names_kept before (drawn_texts (texts_at before taken) bases)

  texts : texts_at after i.names ≡ drawn_texts (texts_at after taken) bases
  texts = i.texts ∙ ap (λ ts. drawn_texts ts bases) (sym (texts_at_kept before after taken kept t.below))

  all_new : (ys : List ℕ) → AllByRecursion (λ y. is_listed taken y ≡ false) ys → AllByRecursion (λ y. is_new r.scene y ≡ true) ys
  all_new [] f = tt
  all_new (y ∷ ys) f = (
    ap₂ (λ a b. not a && not b) (false_from_ne_true (r.scene.known y) (λ e. both_ways _ f.0 (t.known y e))) (false_from_ne_true (names y r.scene.game) (λ e. both_ways _ f.0 (t.named y e))),
    all_new ys f.1,
  )

  pub gives : GivesNextGame r d
  gives = record {
    names = i.names;
    drawn = record {
      many = many after taken i.names bases i.live texts ∙ many_bases;
      apart = apart after taken i.names bases i.live texts few room;
      new = all_new i.names (new after taken i.names bases i.live texts few room);
      answers = λ k. no_answer (length after) (r.answer k) i.names i.live (above k);
      least = refl;
    };
    game = ap (next_of (context_of_game r) r.key) i.table;
  }
