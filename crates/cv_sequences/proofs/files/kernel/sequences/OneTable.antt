-- A table of names in which no text stands twice, and what is drawn by it.
use Rattle.std.proofs.Common.{◌≡◌, ℕ, ◌<◌, Bool, true, false, if◌then◌else◌, List, [], ◌∷◌, ◌++◌, All, Some, length, refl, ap, ap₂, sym, ◌∙◌, subst}
use Rattle.std.proofs.lemmas.Bool.{both_ways}
use Rattle.std.proofs.lemmas.List.Elements.{All-head, All-tail}
use Rattle.std.proofs.lemmas.Option.{slice_get-get_or}
use Rattle.cv_pool.specs.names.Texts.{NoRepeat}
use Rattle.cv_pool.proofs.names.Places.{NoRepeat_append}
use Rattle.cv_meaning.specs.contexts.Inlined.{Drawn}
use Rattle.cv_inline.specs.Draws.{Draw, drawn_by, drawn_texts, is_among}
use Rattle.cv_inline_draws.specs.names.Fresh.{IsDrawnFor, bases_of}
use Rattle.cv_inline_draws.specs.names.Texts.{text_at, texts_at, with_text, with_texts}
use Rattle.cv_inline_draws.proofs.names.Texts.{is_among_has}
use Rattle.cv_syntax_trees.specs.Tree.{Tree}
use Rattle.cv_match_laws.specs.answers.Drawn.{draws, finds}
use Rattle.cv_inline.specs.NextGame.{next_of}
use Rattle.cv_steps_laws.specs.crypto.reductions.Tables.{labels}
use Rattle.cv_inline_draws.specs.taken_names.Taken.{taken_names}
use Rattle.cv_scene.specs.Reductions.{Reduction, context_of_game}
use Rattle.cv_kernel_crypto.specs.Applied.{IsDrawnWith}

number_is : (names : List (List ℕ)) (x y : ℕ) → NoRepeat names → x < length names → y < length names → text_at names x ≡ text_at names y → x ≡ y
number_is names x y u l m e = u x y (text_at names x) (slice_get-get_or names x [] l) (slice_get-get_or names y [] m ∙ ap (λ (t : List ℕ). Some t) (sym e))

numbers_are : (names : List (List ℕ)) (xs ys : List ℕ) → NoRepeat names → All (λ x. x < length names) xs → All (λ x. x < length names) ys → texts_at names xs ≡ texts_at names ys → xs ≡ ys
numbers_are names [] [] u a b e = refl
numbers_are names [] (y ∷ ys) u a b e = absurd (cc)
numbers_are names (x ∷ xs) [] u a b e = absurd (cc)
numbers_are names (x ∷ xs) (y ∷ ys) u a b e =
    let here : text_at names x ≡ text_at names y = cc in
    let rest : texts_at names xs ≡ texts_at names ys = cc in
    ap₂ (λ (z : ℕ) (zs : List ℕ). z ∷ zs) (number_is names x y u (All-head (λ z. z < length names) x xs a) (All-head (λ z. z < length names) y ys b) here)
    (numbers_are names xs ys u (All-tail (λ z. z < length names) x xs a) (All-tail (λ z. z < length names) y ys b) rest)

with_one : (names : List (List ℕ)) (t : List ℕ) → NoRepeat names → NoRepeat (with_text names t)
with_one names t u = go (is_among names t) refl
  where
    go : (b : Bool) → is_among names t ≡ b → NoRepeat (if b then names else names ++ t ∷ [])
    go true e = u
    go false e = NoRepeat_append names t u (λ n h. both_ways (is_among names t) e (is_among_has names t n h))

pub with_all : (names ts : List (List ℕ)) → NoRepeat names → NoRepeat (with_texts names ts)
with_all names [] u = u
with_all names (t ∷ ts) u = with_all (with_text names t) ts (with_one names t u)

-- what is drawn is one
pub drawn_is : (before after : List (List ℕ)) (taken : List ℕ) (draws : List Draw) (finds : List (ℕ × ℕ)) (labels : List ℕ) (d e : Drawn) → NoRepeat before → IsDrawnFor before after taken draws finds labels d → IsDrawnFor before after taken draws finds labels e → d ≡ e
drawn_is before after taken draws finds labels d e u f g =
    let new : NoRepeat after = subst NoRepeat (sym f.added) (with_all before (drawn_texts (texts_at before taken) (texts_at before (bases_of draws))) u) in
    f.table ∙ (ap (λ names. drawn_by draws names finds labels) (numbers_are after f.names g.names new f.live g.live (f.texts ∙ sym g.texts)) ∙ sym g.table)

-- so the next game is one

pub tables : (before after other : List (List ℕ)) (own : ℕ) (r : Reduction) (g h : Tree) → IsDrawnWith before after own r g → IsDrawnWith before other own r h → after ≡ other
tables before after other own r g h w v = w.table.added ∙ sym v.table.added

pub games : (before after other : List (List ℕ)) (own : ℕ) (r : Reduction) (g h : Tree) → NoRepeat before → IsDrawnWith before after own r g → IsDrawnWith before other own r h → g ≡ h
games before after other own r g h u w v =
    let z : IsDrawnWith before after own r h = subst (λ names. IsDrawnWith before names own r h) (sym (tables before after other own r g h w v)) v in
    w.game ∙ (ap (next_of (context_of_game r) r.key) (drawn_is before after (taken_names own r.scene.game) (draws r) (finds r) (labels r) w.drawn z.drawn u w.table z.table) ∙ sym z.game)

-- and in the new table no text stands twice
pub stays_apart : (before after : List (List ℕ)) (own : ℕ) (r : Reduction) (g : Tree) → NoRepeat before → IsDrawnWith before after own r g → NoRepeat after
stays_apart before after own r g u w =
    subst NoRepeat (sym w.table.added) (with_all before (drawn_texts (texts_at before (taken_names own r.scene.game)) (texts_at before (bases_of (draws r)))) u)
