-- Names with drawn texts are new names, none twice.
use Rattle.std.proofs.Common.{◌≡◌, ℕ, suc, ◌*◌, ◌≤◌, ◌^◌, Bool, true, false, ◌&&◌, ◌||◌, not, ◌==◌, List, [], ◌∷◌, map, length, refl, sym, ap, ap₂, subst, ◌∙◌, eq-eqb, eqb-true}
use Rattle.std.proofs.lemmas.Bool.{both_ways, or_left, or_right, false_from_ne_true}
use Rattle.std.proofs.lemmas.List.{length-map}
use Rattle.std.specs.List.{AllByRecursion, IsDistinct, list_any}
use Rattle.cv_scene.specs.Reductions.{Reduction}
use Rattle.cv_scene.specs.Scenes.{is_new, names}
use Rattle.cv_inline.specs.Draws.{Draw, drawn_texts, greatest_end, is_among, labels_from, labels_in, same_text}
use Rattle.cv_inline_laws.proofs.draws.Texts.{as_many_texts, drawn_fit, texts_differ, texts_free}
use Rattle.cv_inline_draws.specs.names.Texts.{is_listed, text_at, texts_at}
use Rattle.cv_match_laws.specs.answers.Drawn.{AreDrawnFor, draws, finds}
use Rattle.cv_inline_draws.proofs.names.Texts.{same_text_refl}

module _ (table : List (List ℕ)) where
  text_among : (taken : List ℕ) (y : ℕ) → is_listed taken y ≡ true → is_among (texts_at table taken) (text_at table y) ≡ true
  text_among [] y e = absurd (both_ways false refl e)
  text_among (x ∷ taken) y e = go (x == y) refl e (text_among taken y)
    where
      go : (b : Bool) → (x == y) ≡ b → (b || is_listed taken y) ≡ true → (is_listed taken y ≡ true → is_among (texts_at table taken) (text_at table y) ≡ true) → is_among (texts_at table (x ∷ taken)) (text_at table y) ≡ true
      go true i e k = or_left (same_text (text_at table y) (text_at table x)) _ (ap (λ z. same_text (text_at table y) (text_at table z)) (eqb-true x y i) ∙ same_text_refl (text_at table y))
      go false i e k = or_right (same_text (text_at table y) (text_at table x)) _ (k e)

  none_listed : (taken ys : List ℕ) → AllByRecursion (λ t. is_among (texts_at table taken) t ≡ false) (texts_at table ys) → AllByRecursion (λ y. is_listed taken y ≡ false) ys
  none_listed taken [] f = tt
  none_listed taken (y ∷ ys) f = (false_from_ne_true (is_listed taken y) (λ e. both_ways _ f.0 (text_among taken y e)), none_listed taken ys f.1)

  others : (x : ℕ) (ys : List ℕ) → AllByRecursion (λ t. same_text (text_at table x) t ≡ false) (texts_at table ys) → AllByRecursion (λ y. (x == y) ≡ false) ys
  others x [] f = tt
  others x (y ∷ ys) f = (false_from_ne_true (x == y) (λ e. both_ways _ f.0 (ap (λ z. same_text (text_at table x) (text_at table z)) (sym (eqb-true x y e)) ∙ same_text_refl (text_at table x))), others x ys f.1)

  apart_texts : (ys : List ℕ) → IsDistinct same_text (texts_at table ys) → IsDistinct ◌==◌ ys
  unfolding IsDistinct
  apart_texts [] f = tt
  apart_texts (y ∷ ys) f = (others y ys f.0, apart_texts ys f.1)

  -- the names that are taken are those of file and game
  module _ (r : Reduction) (taken drawn labels : List ℕ) (texts : texts_at table drawn ≡ drawn_texts (texts_at table taken) (texts_at table (map (λ (d : Draw). d.base) (draws r)))) (few : length (draws r) * suc (length taken) ≤ 10 ^ 63)
      (known : (y : ℕ) → r.scene.known y ≡ true → is_listed taken y ≡ true) (named : (y : ℕ) → names y r.scene.game ≡ true → is_listed taken y ≡ true) where
    abbrev bases : List (List ℕ)
    bases = texts_at table (map (λ (d : Draw). d.base) (draws r))

    many_bases : length bases ≡ length (draws r)
    many_bases = length-map (map (λ (d : Draw). d.base) (draws r)) (text_at table) ∙ length-map (draws r) (λ d. d.base)

    fits : length bases * suc (length (texts_at table taken)) ≤ 10 ^ 63
    fits = subst (λ n. n * suc (length (texts_at table taken)) ≤ 10 ^ 63) (sym many_bases) (subst (λ n. length (draws r) * suc n ≤ 10 ^ 63) (sym (length-map taken (text_at table))) few)

    abbrev start : ℕ
    start = suc (greatest_end (texts_at table taken))

    each_new : (ys : List ℕ) → AllByRecursion (λ y. is_listed taken y ≡ false) ys → AllByRecursion (λ y. is_new r.scene y ≡ true) ys
    each_new [] f = tt
    each_new (y ∷ ys) f = (
      ap₂ (λ a b. not a && not b) (false_from_ne_true (r.scene.known y) (λ e. both_ways _ f.0 (known y e))) (false_from_ne_true (names y r.scene.game) (λ e. both_ways _ f.0 (named y e))),
      each_new ys f.1,
    )

    pub names_drawn : ((k : ℕ) → list_any (λ y. y == r.answer k) drawn ≡ false) → labels ≡ labels_from (labels_in r.scene.game) 1 (finds r) → AreDrawnFor r drawn labels
    names_drawn answers least = record {
      many = sym (length-map drawn (text_at table)) ∙ ap length texts ∙ as_many_texts (texts_at table taken) start bases ∙ many_bases;
      apart = apart_texts drawn (subst (IsDistinct same_text) (sym texts) (texts_differ (texts_at table taken) start bases (drawn_fit (texts_at table taken) bases fits)));
      new = each_new drawn (none_listed taken drawn (subst (AllByRecursion (λ t. is_among (texts_at table taken) t ≡ false)) (sym texts) (texts_free (texts_at table taken) start bases (drawn_fit (texts_at table taken) bases fits))));
      answers = answers;
      least = least;
    }
