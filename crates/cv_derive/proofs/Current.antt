-- Current indices, one by one.
use Rattle.std.proofs.Common.{◌≡◌, ◌&&◌, ℕ, zero, suc, ◌+◌, ◌≤◌, Bool, true, false, cond, List, [], ◌∷◌, length, drop, Bor, Option, Some, None, refl, sym, ap, ap₂, ◌∙◌, arith}
use Rattle.std.specs.Prelude.{option_copied, slice_get}
use Rattle.std.specs.Slice.{IsItemAt}
use Rattle.std.proofs.lemmas.Option.{slice_get_past, slice_get_read}
use Rattle.cv_syntax_trees.specs.declared.head.Head.{Head}
use Rattle.cv_syntax_trees.specs.declared.head.Head.TheVariants.{Eq, Leaf}
use Rattle.cv_syntax_trees.specs.Children.{is_empty}
use Rattle.cv_syntax_trees.specs.Tree.{Tree, Empty, Node, lone, same_tree}
use Rattle.cv_scope_rules.specs.Context.{items}
use Rattle.cv_scene.specs.lines.Inferences.{Visible, cited_term}
use Rattle.cv_scene.specs.Late.{are_current, is_next, without_next}
use Rattle.cv_derive.specs.Current.{left_behind}

-- current indices

pub next_none : (v : Visible) (ls : Tree) (t : Tree) → ls ≡ Empty → is_next v (items ls) t ≡ false
next_none v ls t e = ap (λ u. is_next v (items u) t) e

pub next_first : (v : Visible) (ls : Tree) (h : Head) (a b : Tree) (t : Tree) → ls ≡ Node h a b → is_next v (items ls) t ≡ same_tree (cited_term v a) t
next_first v ls h a b t e = ap (λ u. is_next v (items u) t) e

pub rest_behind : (ls : Tree) (h : Head) (a b : Tree) → ls ≡ Node h a b → without_next (items ls) ≡ items b
rest_behind ls h a b e = ap (λ u. without_next (items u)) e

module _ (v : Visible) (i : ℕ) (m ls : Tree) where
  abbrev said : Tree
  said = Node Eq m (lone (Leaf i))

  pub left_itself : (c : Bool) → c ≡ same_tree m (lone (Leaf i)) → c ≡ true → Some (items ls) ≡ left_behind v i m (items ls)
  left_itself c e f = sym (ap (λ b. cond b (Some (items ls)) (cond (is_next v (items ls) said) (Some (without_next (items ls))) None)) (sym e ∙ f))

  other : (c d : Bool) → c ≡ same_tree m (lone (Leaf i)) → c ≡ false → d ≡ is_next v (items ls) said → left_behind v i m (items ls) ≡ cond d (Some (without_next (items ls))) None
  other c d e f g = ap₂ (λ b k. cond b (Some (items ls)) (cond k (Some (without_next (items ls))) None)) (sym e ∙ f) (sym g)

  pub left_nothing : (c d : Bool) → c ≡ same_tree m (lone (Leaf i)) → c ≡ false → d ≡ is_next v (items ls) said → d ≡ false → None ≡ left_behind v i m (items ls)
  left_nothing c d e f g k = sym (other c d e f g ∙ ap (λ b. cond b (Some (without_next (items ls))) None) k)

  pub left_rest : (c d : Bool) → c ≡ same_tree m (lone (Leaf i)) → c ≡ false → d ≡ is_next v (items ls) said → d ≡ true → Some (without_next (items ls)) ≡ left_behind v i m (items ls)
  left_rest c d e f g k = sym (other c d e f g ∙ ap (λ b. cond b (Some (without_next (items ls))) None) k)

-- one index more

-- the rest of the indices, where there are lines left behind the first
abbrev are_current_behind : Visible → List (ℕ × ℕ) → List Tree → Option (List Tree) → Bool
are_current_behind v rs ms None = false
are_current_behind v rs ms (Some js) = are_current v rs ms js

module _ (v : Visible) (r : ℕ × ℕ) (rs : List (ℕ × ℕ)) (m : Tree) (ms ls : List Tree) where
  current_form : are_current v (r ∷ rs) (m ∷ ms) ls ≡ are_current_behind v rs ms (left_behind v r.0 m ls)
  current_form = go (same_tree m (lone (Leaf r.0))) (is_next v ls (Node Eq m (lone (Leaf r.0))))
    where
      go : (c d : Bool) → cond c (are_current v rs ms ls) (d && are_current v rs ms (without_next ls)) ≡ are_current_behind v rs ms (cond c (Some ls) (cond d (Some (without_next ls)) None))
      go true d = refl
      go false true = refl
      go false false = refl

  current_none : None ≡ left_behind v r.0 m ls → are_current v (r ∷ rs) (m ∷ ms) ls ≡ false
  current_none e = current_form ∙ ap (are_current_behind v rs ms) (sym e)

  current_some : (js : List Tree) → Some js ≡ left_behind v r.0 m ls → are_current v (r ∷ rs) (m ∷ ms) ls ≡ are_current v rs ms js
  current_some js e = current_form ∙ ap (are_current_behind v rs ms) (sym e)

-- what a look-up lends
pub found_item : (xs : List (ℕ × ℕ)) (i : ℕ) (r : Option (Bor (ℕ × ℕ))) → IsItemAt xs i r → option_copied r ≡ slice_get xs i
found_item xs i None h = sym (slice_get_past xs i h.3)
found_item xs i (Some x) h = sym (slice_get_read xs (length xs) i x.now refl h.3.0 h.1)

drop_next : (xs : List (ℕ × ℕ)) (k : ℕ) (x : ℕ × ℕ) → Some x ≡ slice_get xs k → drop k xs ≡ x ∷ drop (k + 1) xs
drop_next [] k x e = absurd (let z = e in cc)
drop_next (y ∷ xs) zero x e = let z : x ≡ y = cc in ap (λ u. u ∷ xs) (sym z)
drop_next (y ∷ xs) (suc k) x e = let n : suc k + 1 ≡ suc (k + 1) = omega arith in drop_next xs k x e ∙ ap (λ j. x ∷ drop j (y ∷ xs)) (sym n)

drop_past : (xs : List (ℕ × ℕ)) (k : ℕ) → None ≡ slice_get xs k → drop k xs ≡ []
drop_past [] zero e = refl
drop_past [] (suc k) e = refl
drop_past (x ∷ xs) zero e = absurd (let z = e in cc)
drop_past (x ∷ xs) (suc k) e = drop_past xs k e

-- at the end no line is left over
pub current_end : (v : Visible) (rs : List (ℕ × ℕ)) (ls : Tree) → is_empty ls ≡ are_current v rs [] (items ls)
current_end v [] Empty = refl
current_end v (r ∷ rs) Empty = refl
current_end v [] (Node h a b) = refl
current_end v (r ∷ rs) (Node h a b) = refl

pub ends_here : (v : Visible) (rs : List (ℕ × ℕ)) (t ls : Tree) → t ≡ Empty → is_empty ls ≡ are_current v rs (items t) (items ls)
ends_here v rs t ls e = current_end v rs ls ∙ ap (λ u. are_current v rs (items u) (items ls)) (sym e)

module _ (v : Visible) (rs : List (ℕ × ℕ)) (k : ℕ) (t a b : Tree) (h : Head) (ls : List Tree) (e : t ≡ Node h a b) where
  -- no replication is left
  pub stops_past : None ≡ slice_get rs k → are_current v (drop k rs) (items t) ls ≡ false
  stops_past o = ap₂ (λ r u. are_current v r (items u) ls) (drop_past rs k o) e

  current_next : (r : ℕ × ℕ) → Some r ≡ slice_get rs k → are_current v (drop k rs) (items t) ls ≡ are_current v (r ∷ drop (k + 1) rs) (a ∷ items b) ls
  current_next r o = ap₂ (λ q u. are_current v q (items u) ls) (drop_next rs k r o) e

  -- a term that isn't current
  pub stops_here : (r : ℕ × ℕ) → Some r ≡ slice_get rs k → None ≡ left_behind v r.0 a ls → are_current v (drop k rs) (items t) ls ≡ false
  stops_here r o n = current_next r o ∙ current_none v r (drop (k + 1) rs) a (items b) ls n

  pub goes_on : (r : ℕ × ℕ) → Some r ≡ slice_get rs k → (js : List Tree) → Some js ≡ left_behind v r.0 a ls → are_current v (drop k rs) (items t) ls ≡ are_current v (drop (k + 1) rs) (items b) js
  goes_on r o js n = current_next r o ∙ current_some v r (drop (k + 1) rs) a (items b) ls js n

pub few_more : (rs : List (ℕ × ℕ)) (k : ℕ) (r : ℕ × ℕ) → Some r ≡ slice_get rs k → k + 1 ≤ length rs
few_more [] k r e = absurd (let z = e in cc)
few_more (x ∷ rs) zero r e = omega arith
few_more (x ∷ rs) (suc k) r e = let l = few_more rs k r e in omega arith
