-- How much readers leave, and what they answer where no phrase begins.
use Rattle.std.proofs.Common.{◌≡◌, ℕ, zero, suc, ◌≤◌, Bool, true, false, ◌&&◌, ◌||◌, not, List, [], ◌∷◌, ◌++◌, length, refl, ap, sym, ◌∙◌, arith, subst, Some, None, Ok, Err}
use Rattle.std.proofs.lemmas.Bool.{not-true}
use Rattle.cv_syntax_trees.proofs.lists.Tests.{and_first, and_second, or_first, or_second}
use Rattle.cv_syntax_trees.specs.Tree.{Tree}
use Rattle.cv_parse_notation.specs.declared.script.ScriptWord.{ScriptWord}
use Rattle.cv_parse_notation.specs.declared.sign.Mark.{Mark}
use Rattle.cv_parse_notation.specs.declared.sign.Sign.{Sign}
use Rattle.cv_parse_notation.specs.declared.sign.Sign.TheVariants as token
use Rattle.cv_parse_notation.specs.Form.{Form, sign, script_word, word, number, nought, find_word, unnamed, other, note, both, may, many, either, made, level, deeper}
use Rattle.cv_parse_notation.specs.Spells.{Kind, kind_of, is_mark, is_script_word, is_other, starts, starts_both, next_is, used, may_vanish}
use Rattle.cv_parse_notation.specs.Reads.{Syntax, Nesting, Found, Read, Reader, ◌>>=◌, found, pick, no_syntax, no_level, read_sign, read_script_word, read_word, read_number, read_nought, read_find, read_unnamed, read_other, nothing, joined, one_more, mapped, read_many, reads}
use Rattle.cv_parse_notation.proofs.Locality.{pick_false}

-- how many tokens are left where reading ends or fails
abbrev pub left_in : {R A : Type 0} → Read R A → ℕ
left_in (Ok x) = length x.rest
left_in (Err (Syntax k)) = k
left_in (Err (Nesting k)) = k

pub left_then : {R A B : Type 0} (g : Found R A → Read R B) → ((x : Found R A) → left_in (g x) ≤ length x.rest) → (r : Read R A) → left_in (r >>= g) ≤ left_in r
left_then g l (Ok x) = l x
left_then g l (Err (Syntax k)) = omega arith
left_then g l (Err (Nesting k)) = omega arith

-- a reader leaves no more than it was given
abbrev pub Takes : {R A : Type 0} → Reader R A → Type 0
Takes p = (ts : List Sign) → left_in (p ts) ≤ length ts

takes_pick : {R A : Type 0} (b : Bool) (p q : Reader R A) (ts : List Sign) → left_in (p ts) ≤ length ts → left_in (q ts) ≤ length ts → left_in (pick b p q ts) ≤ length ts
takes_pick true p q ts h i = h
takes_pick false p q ts h i = i

pub takes_then : {R A B : Type 0} (p : Reader R A) (g : Found R A → Read R B) → Takes p → ((x : Found R A) → left_in (g x) ≤ length x.rest) → Takes (λ ts. p ts >>= g)
takes_then p g l m ts = let i = l ts in let j = left_then g m (p ts) in omega arith

pub takes_many : {R A : Type 0} (k : Kind → Bool) (p : Reader R A) → Takes p → (n : ℕ) → Takes (read_many k p n)
takes_many k p l zero ts = omega arith
takes_many k p l (suc n) ts =
    takes_pick (next_is k ts) (λ us. p us >>= λ x. read_many k p n x.rest >>= one_more x) (nothing []) ts (takes_then p (λ x. read_many k p n x.rest >>= one_more x) l (λ x. takes_then (read_many k p n) (one_more x) (takes_many k p l n) (λ y. omega arith) x.rest) ts) (omega arith)

takes_sign : (R : Type 0) (m : Mark) → Takes (read_sign {R = R} m)
takes_sign R m [] = omega arith
takes_sign R m (t ∷ ts) = takes_pick {R = R} (is_mark m (kind_of t)) (λ us. found tt [] ts) no_syntax (t ∷ ts) (omega arith) (omega arith)

takes_script_word : (R : Type 0) (w : ScriptWord) → Takes (read_script_word {R = R} w)
takes_script_word R w [] = omega arith
takes_script_word R w (t ∷ ts) = takes_pick {R = R} (is_script_word w (kind_of t)) (λ us. found tt [] ts) no_syntax (t ∷ ts) (omega arith) (omega arith)

takes_other : (R : Type 0) → Takes (read_other {R = R})
takes_other R [] = omega arith
takes_other R (t ∷ ts) = takes_pick {R = R} (is_other (kind_of t)) (λ us. found tt [] ts) no_syntax (t ∷ ts) (omega arith) (omega arith)

takes_word : {R : Type 0} (r : R) → Takes (read_word r)
takes_word r (token.Word x w ∷ ts) = omega arith
takes_word r ts = omega arith

takes_unnamed : {R : Type 0} (r : R) → Takes (read_unnamed r)
takes_unnamed r (token.Unnamed x ∷ ts) = omega arith
takes_unnamed r ts = omega arith

takes_number : (R : Type 0) → Takes (read_number {R = R})
takes_number R (token.Number x ∷ ts) = omega arith
takes_number R ts = omega arith

takes_find : (R : Type 0) → Takes (read_find {R = R})
takes_find R (token.Find x ∷ ts) = omega arith
takes_find R ts = omega arith

takes_nought : (R : Type 0) → Takes (read_nought {R = R})
takes_nought R (token.Number zero ∷ ts) = omega arith
takes_nought R ts = omega arith

takes_level : {R A : Type 0} (room b : Bool) (p : Reader R A) (ts : List Sign) → left_in (p ts) ≤ length ts → left_in (pick room p (pick b no_level no_syntax) ts) ≤ length ts
takes_level true b p ts l = l
takes_level false true p ts l = omega arith
takes_level false false p ts l = omega arith

module _ {R σ : Type 0} (h : σ → Kind → Bool) (room : Bool) (r : σ → Reader R Tree) (l : (s : σ) → Takes (r s)) where
  pub takes : {A : Type 0} (f : Form R σ A) → Takes (reads h room r f)
  takes (sign m) = takes_sign R m
  takes (script_word w) = takes_script_word R w
  takes (word q) = takes_word q
  takes number = takes_number R
  takes nought = takes_nought R
  takes find_word = takes_find R
  takes (unnamed q) = takes_unnamed q
  takes other = takes_other R
  takes (note q) = λ ts. omega arith
  takes (both f g) = takes_then (reads h room r f) (λ x. reads h room r g x.rest >>= joined x) (takes f) (λ x. takes_then (reads h room r g) (joined x) (takes g) (λ y. omega arith) x.rest)
  takes (may near f) = λ ts. takes_pick (next_is (starts h f) ts) (λ us. reads h room r f us >>= mapped Some) (nothing None) ts (takes_then (reads h room r f) (mapped Some) (takes f) (λ x. omega arith) ts) (omega arith)
  takes (many near f) = λ ts. takes_many (starts h f) (reads h room r f) (takes f) (length ts) ts
  takes (either f g) = λ ts. takes_pick (next_is (starts h f) ts) (reads h room r f) (reads h room r g) ts (takes f ts) (takes g ts)
  takes (made v f) = takes_then (reads h room r f) (mapped v) (takes f) (λ x. omega arith)
  takes (level f) = λ ts. takes_level room (next_is (starts h f) ts) (reads h room r f) ts (takes f ts)
  takes (deeper q) = l q

-- the first token of a phrase is never one of a phrase one level down
abbrev pub begins_itself : {R σ A : Type 0} → Form R σ A → Bool
begins_itself (both f g) = begins_itself f && (not (may_vanish f) || begins_itself g)
begins_itself (may near f) = begins_itself f
begins_itself (many near f) = begins_itself f
begins_itself (either f g) = begins_itself f && begins_itself g
begins_itself (made v f) = begins_itself f
begins_itself (level f) = begins_itself f
begins_itself (deeper s) = false
begins_itself _ = true

-- a phrase has a token in a level, or one level down
abbrev pub has_level : {R σ A : Type 0} → Form R σ A → Bool
has_level (both f g) = has_level f || has_level g
has_level (either f g) = has_level f && has_level g
has_level (made v f) = has_level f
has_level (level f) = true
has_level (deeper s) = true
has_level _ = false

-- before a phrase one level down there is a token in a level
abbrev pub is_guarded : {R σ A : Type 0} → Form R σ A → Bool
is_guarded (both f g) = is_guarded f && (has_level f || is_guarded g)
is_guarded (may near f) = is_guarded f
is_guarded (many near f) = is_guarded f
is_guarded (either f g) = is_guarded f && is_guarded g
is_guarded (made v f) = is_guarded f
is_guarded (deeper s) = false
is_guarded _ = true

-- each level opens at a token of its own
abbrev pub has_firm_levels : {R σ A : Type 0} → Form R σ A → Bool
has_firm_levels (both f g) = has_firm_levels f && has_firm_levels g
has_firm_levels (may near f) = has_firm_levels f
has_firm_levels (many near f) = has_firm_levels f
has_firm_levels (either f g) = has_firm_levels f && (has_firm_levels g && not (may_vanish f))
has_firm_levels (made v f) = has_firm_levels f
has_firm_levels (level f) = has_firm_levels f && (not (may_vanish f) && begins_itself f)
has_firm_levels _ = true

-- nothing is taken where a phrase may vanish, and else the next token is a fault of syntax
abbrev pub Unbegun : {R A : Type 0} → Bool → Read R A → List Sign → Type 0
Unbegun {R} {A} true r ts = (x : Found R A) × (r ≡ Ok x) × (x.rest ≡ ts)
Unbegun false r ts = r ≡ Err (Syntax (length ts))

unbegun_sign : {R : Type 0} (m : Mark) (ts : List Sign) → next_is (is_mark m) ts ≡ false → read_sign {R = R} m ts ≡ Err (Syntax (length ts))
unbegun_sign m [] e = refl
unbegun_sign m (t ∷ ts) e = pick_false (is_mark m (kind_of t)) (λ us. found tt [] ts) no_syntax (t ∷ ts) e

unbegun_script_word : {R : Type 0} (w : ScriptWord) (ts : List Sign) → next_is (is_script_word w) ts ≡ false → read_script_word {R = R} w ts ≡ Err (Syntax (length ts))
unbegun_script_word w [] e = refl
unbegun_script_word w (t ∷ ts) e = pick_false (is_script_word w (kind_of t)) (λ us. found tt [] ts) no_syntax (t ∷ ts) e

unbegun_other : {R : Type 0} (ts : List Sign) → next_is is_other ts ≡ false → read_other {R = R} ts ≡ Err (Syntax (length ts))
unbegun_other [] e = refl
unbegun_other (t ∷ ts) e = pick_false (is_other (kind_of t)) (λ us. found tt [] ts) no_syntax (t ∷ ts) e

unbegun_both : {R A B : Type 0} (v w : Bool) (r : Read R A) (q : Reader R B) (ts : List Sign) → Unbegun v r ts → (v ≡ true → Unbegun w (q ts) ts) → Unbegun (v && w) (r >>= λ x. q x.rest >>= joined x) ts
unbegun_both {R} {A} {B} true w r q ts u k = go w (subst (λ us. Unbegun w (q us) ts) (sym u.2) (k refl))
  where
    step : (r >>= λ x. q x.rest >>= joined x) ≡ (q u.0.rest >>= joined u.0)
    step = ap (λ (z : Read R A). z >>= λ x. q x.rest >>= joined x) u.1

    go : (w : Bool) → Unbegun w (q u.0.rest) ts → Unbegun w (r >>= λ x. q x.rest >>= joined x) ts
    go true y = (record { value = (u.0.value, y.0.value); uses = u.0.uses ++ y.0.uses; rest = y.0.rest }, step ∙ ap (λ (z : Read R B). z >>= joined u.0) y.1, y.2)
    go false y = step ∙ ap (λ (z : Read R B). z >>= joined u.0) y
unbegun_both {R} {A} {B} false w r q ts u k = ap (λ (z : Read R A). z >>= λ x. q x.rest >>= joined x) u

unbegun_made : {R A B : Type 0} (v : Bool) (m : A → B) (r : Read R A) (ts : List Sign) → Unbegun v r ts → Unbegun v (r >>= mapped m) ts
unbegun_made true m r ts u = (record { value = m u.0.value; uses = u.0.uses; rest = u.0.rest }, ap (λ z. z >>= mapped m) u.1, u.2)
unbegun_made {R} {A} false m r ts u = ap (λ (z : Read R A). z >>= mapped m) u

unbegun_level : {R A : Type 0} (room b v : Bool) (p : Reader R A) (ts : List Sign) → v ≡ false → b ≡ false → Unbegun v (p ts) ts → Unbegun v (pick room p (pick b no_level no_syntax) ts) ts
unbegun_level true b v p ts e i u = u
unbegun_level false true v p ts e i u = absurd (cc)
unbegun_level false false true p ts e i u = absurd (cc)
unbegun_level false false false p ts e i u = refl

unbegun_many : {R A : Type 0} (k : Kind → Bool) (p : Reader R A) (n : ℕ) (ts : List Sign) → next_is k ts ≡ false → read_many k p n ts ≡ found [] [] ts
unbegun_many k p zero ts e = refl
unbegun_many k p (suc n) ts e = pick_false (next_is k ts) (λ us. p us >>= λ x. read_many k p n x.rest >>= one_more x) (nothing []) ts e

-- of two tests neither pick_false
pub neither : (p q : Kind → Bool) (ts : List Sign) → next_is (λ k. p k || q k) ts ≡ false → (next_is p ts ≡ false) × (next_is q ts ≡ false)
neither p q [] e = (refl, refl)
neither p q (t ∷ ts) e = (or_first (p (kind_of t)) (q (kind_of t)) e, or_second (p (kind_of t)) (q (kind_of t)) e)

first_unbegun : (v : Bool) (p q : Kind → Bool) (ts : List Sign) → next_is (starts_both v p q) ts ≡ false → next_is p ts ≡ false
first_unbegun true p q ts e = (neither p q ts e).0
first_unbegun false p q ts e = e

second_unbegun : (v : Bool) (p q : Kind → Bool) (ts : List Sign) → next_is (starts_both v p q) ts ≡ false → v ≡ true → next_is q ts ≡ false
second_unbegun true p q ts e i = (neither p q ts e).1
second_unbegun false p q ts e i = absurd (cc)

-- an unbegun phrase that may not be the empty one, in either
other_vanishes : {R A : Type 0} (v w : Bool) (r : Read R A) (ts : List Sign) → v ≡ false → Unbegun w r ts → Unbegun (v || w) r ts
other_vanishes true w r ts e u = absurd (cc)
other_vanishes false w r ts e u = u

module _ {R σ : Type 0} (h : σ → Kind → Bool) (room : Bool) (r : σ → Reader R Tree) (n : (s : σ) (ts : List Sign) → next_is (h s) ts ≡ false → r s ts ≡ Err (Syntax (length ts))) where
  pub unbegun : {A : Type 0} (f : Form R σ A) → has_firm_levels f ≡ true → (ts : List Sign) → next_is (starts h f) ts ≡ false → Unbegun (may_vanish f) (reads h room r f ts) ts
  unbegun (sign m) w ts e = unbegun_sign m ts e
  unbegun (script_word v) w ts e = unbegun_script_word v ts e
  unbegun (word q) w [] e = refl
  unbegun (word q) w (token.Word x v ∷ ts) e = absurd (cc)
  unbegun (word q) w (t ∷ ts) e = refl
  unbegun number w [] e = refl
  unbegun number w (token.Number zero ∷ ts) e = absurd (cc)
  unbegun number w (token.Number (suc v) ∷ ts) e = absurd (cc)
  unbegun number w (t ∷ ts) e = refl
  unbegun nought w [] e = refl
  unbegun nought w (token.Number zero ∷ ts) e = absurd (cc)
  unbegun nought w (t ∷ ts) e = refl
  unbegun find_word w [] e = refl
  unbegun find_word w (token.Find x ∷ ts) e = absurd (cc)
  unbegun find_word w (t ∷ ts) e = refl
  unbegun (unnamed q) w [] e = refl
  unbegun (unnamed q) w (token.Unnamed x ∷ ts) e = absurd (cc)
  unbegun (unnamed q) w (t ∷ ts) e = refl
  unbegun other w ts e = unbegun_other ts e
  unbegun (note q) w ts e = (record { value = length ts; uses = used q 0 ts; rest = ts }, refl, refl)
  unbegun (both f g) w ts e =
      unbegun_both (may_vanish f) (may_vanish g) (reads h room r f ts) (reads h room r g) ts (unbegun f (and_first (has_firm_levels f) (has_firm_levels g) w) ts (first_unbegun (may_vanish f) (starts h f) (starts h g) ts e)) (λ i. unbegun g (and_second (has_firm_levels f) (has_firm_levels g) w) ts (second_unbegun (may_vanish f) (starts h f) (starts h g) ts e i))
  unbegun (may near f) w ts e = (record { value = None; uses = []; rest = ts }, pick_false (next_is (starts h f) ts) (λ us. reads h room r f us >>= mapped Some) (nothing None) ts e, refl)
  unbegun (many near f) w ts e = (record { value = []; uses = []; rest = ts }, unbegun_many (starts h f) (reads h room r f) (length ts) ts e, refl)
  unbegun (either f g) w ts e =
      let i = and_second (has_firm_levels f) (has_firm_levels g && not (may_vanish f)) w in
      let v = not-true (may_vanish f) (and_second (has_firm_levels g) (not (may_vanish f)) i) in
      let d = neither (starts h f) (starts h g) ts e in
      other_vanishes (may_vanish f) (may_vanish g) (reads h room r (either f g) ts) ts v (subst (λ z. Unbegun (may_vanish g) z ts) (sym (pick_false (next_is (starts h f) ts) (reads h room r f) (reads h room r g) ts d.0)) (unbegun g (and_first (has_firm_levels g) (not (may_vanish f)) i) ts d.1))
  unbegun (made v f) w ts e = unbegun_made (may_vanish f) v (reads h room r f ts) ts (unbegun f w ts e)
  unbegun (level f) w ts e = unbegun_level room (next_is (starts h f) ts) (may_vanish f) (reads h room r f) ts (not-true (may_vanish f) (and_first (not (may_vanish f)) _ (and_second (has_firm_levels f) _ w))) e (unbegun f (and_first (has_firm_levels f) _ w) ts e)
  unbegun (deeper q) w ts e = n q ts e
