-- Games with a body in the place of a construct all whose bodies are equal.
use Rattle.std.proofs.Common.{◌≡◌, ℕ, ◌<◌, ◌≤◌, ◌==◌, ◌&&◌, ◌⊎◌, inl, inr, Bool, true, false, cond, not, List, [], ◌∷◌, ◌++◌, Option, Some, None, refl, sym, ap, ap₂, subst, ◌∙◌, arith, eqb-true, eq-eqb}
use Rattle.std.specs.List.{AllByRecursion}
use Rattle.std.proofs.lemmas.Bool.{both_ways, and_parts, or_parts}
use Rattle.cv_syntax_trees.specs.declared.head.Head.{Head}
use Rattle.cv_syntax_trees.specs.declared.head.Head.TheVariants.{Binder, Branch, Cons, Find, If, Leaf, Read}
use Rattle.cv_syntax_trees.specs.declared.sites.sort.Sort.{Sort}
use Rattle.cv_syntax_trees.specs.declared.sites.sort.Sort.TheVariants.{BelowParameter}
use Rattle.cv_syntax_trees.specs.Tree.{Tree, Empty, Node, first, first_place, head_reads_only, reads_only, second, second_place, size, subtree}
use Rattle.cv_syntax_trees.specs.sites.Sites.{bound_sort, first_of}
use Rattle.cv_syntax_trees.proofs.lists.Each.{AllByRecursion_parts}
use Rattle.cv_meaning.specs.Replaced.{is_output}
use Rattle.cv_meaning_runs.specs.Replacement.{IsReplaced, Process}
use Rattle.cv_meaning_chances.specs.unread.Dropping.{reads_none}
use Rattle.cv_scope_rules.specs.Made.{is_bound, is_own_at, is_own_of}
use Rattle.cv_scope_rules.specs.Phrases.{Arm, Binders, Body, Branches, Cells, Inputs, Nil, Phrase, Term, Then, is_phrase, parts}
use Rattle.cv_typing_runs.proofs.Terms.{nil_empty}
use Rattle.cv_scene.specs.Scenes.{Scene, part_at}
use Rattle.cv_steps.specs.Changes.{change_at, only}
use Rattle.cv_steps.specs.Steps.{Cost, Leads}
use Rattle.cv_steps.proofs.Comes.{placed}
use Rattle.cv_steps.proofs.Flat.{guarded_of, guards_of, open_phrase, term_still, terms_still}
use Rattle.cv_steps_laws.proofs.chances.Phrases.{phrase_there}
use Rattle.cv_rule_move.specs.merge.Merging as merging
use Rattle.cv_rule_move.specs.merge.Merging.{bodies, branch_bodies, is_beside}
use Rattle.cv_rule_move.specs.merge.Row.{merge_row}
use Rattle.cv_rule_move.proofs.merge.Constructs.{all_are, bodies_output, first_body_has}
use Rattle.cv_rule_move.proofs.merge.Keeping.{IsMerge, merge_leads}
use Rattle.cv_rule_move.proofs.merge.Named.{body_kept, nothing_reads, outside_kept, unnamed_at, unread, unread_changed}
use Rattle.cv_rule_move.proofs.merge.One.{IsInside, IsOne, is_one}
use Rattle.cv_settling_rules.specs.Measure.{large_equalities, lowers}
use Rattle.cv_settling_measures.proofs.Equalities.{equalities_replaced, size_replaced}
use Rattle.cv_settling_measures.proofs.Names.{Stays, lower_by}
use Rattle.cv_settling_measures.proofs.Pruning.{output_there, output_unsorted}
use Rattle.cv_settling_measures.proofs.Sites.{site_sort, sites_replaced, still_sites}

-- the first body is smaller than the construct

second_less : (t : Tree) → size (second t) ≤ size t
unfolding size
second_less Empty = omega arith
second_less (Node h a b) = omega arith

first_less : (t : Tree) → size (first t) ≤ size t
unfolding size
first_less Empty = omega arith
first_less (Node h a b) = omega arith

first_is : (b c : merging.Body) (bs cs : List merging.Body) → b ∷ bs ≡ c ∷ cs → b ≡ c
first_is b c bs cs e = cc

no_body : (b : merging.Body) (others : List merging.Body) → [] ≡ b ∷ others → ⊥
no_body b others e = cc

-- the `else` body
abbrev last : (place : ℕ) → (process : Tree) → List merging.Body
last q t = (record { place = q; process = t }) ∷ []

-- branches have a first one with a body, or no bodies
record IsBranch (t : Tree) : Type 0 where
  binders : Tree
  rest : Tree
  more : Tree
  same : t ≡ Node Cons (Node Branch binders rest) more

first_branch : (p : ℕ) (t : Tree) → (branch_bodies p t ≡ []) ⊎ IsBranch t
first_branch p (Node Cons (Node Branch us rest) more) = inr (record { binders = us; rest = rest; more = more; same = refl })
first_branch p t = inl refl

branch_less : (l p q : ℕ) (us rest more otherwise : Tree) (b : merging.Body) (others : List merging.Body) → (branch_bodies p (Node Cons (Node Branch us rest) more) ++ last q otherwise) ≡ b ∷ others
    → size b.process < size (Node (Find l) (Node Cons (Node Branch us rest) more) otherwise)
unfolding size
branch_less l p q us rest more otherwise b others e =
    let z : size b.process ≡ size (second (second rest)) = ap (λ (c : merging.Body). size c.process) (sym (first_is _ b _ others e)) in
    omega (arith, z, second_less (second rest), second_less rest)

otherwise_less : (l q : ℕ) (branches otherwise : Tree) (b : merging.Body) (others : List merging.Body) → last q otherwise ≡ b ∷ others → size b.process < size (Node (Find l) branches otherwise)
unfolding size
otherwise_less l q branches otherwise b others e =
    let z : size b.process ≡ size otherwise = ap (λ (c : merging.Body). size c.process) (sym (first_is _ b _ others e)) in omega (arith, z)

branches_less : (l p q : ℕ) (branches otherwise : Tree) (b : merging.Body) (others : List merging.Body) → (branch_bodies p branches ++ last q otherwise) ≡ b ∷ others → size b.process < size (Node (Find l) branches otherwise)
branches_less l p q branches otherwise b others e = go (first_branch p branches)
  where
    go : (branch_bodies p branches ≡ []) ⊎ IsBranch branches → size b.process < size (Node (Find l) branches otherwise)
    go (inl f) = otherwise_less l q branches otherwise b others (ap (λ bs. bs ++ last q otherwise) (sym f) ∙ e)
    go (inr r) =
        subst (λ t. size b.process < size (Node (Find l) t otherwise)) (sym r.same)
        (branch_less l p q r.binders r.rest r.more otherwise b others (ap (λ t. branch_bodies p t ++ last q otherwise) (sym r.same) ∙ e))

body_smaller : (p : ℕ) (t : Tree) (b : merging.Body) (others : List merging.Body) → bodies p t ≡ b ∷ others → size b.process < size t
unfolding size
body_smaller p (Node If c rest) b others e =
    let z : size b.process ≡ size (first rest) = ap (λ (c : merging.Body). size c.process) (sym (first_is _ b _ others e)) in omega (arith, z, first_less rest)
body_smaller p (Node (Find l) branches otherwise) b others e = branches_less l (first_place p (Find l)) (second_place p (Find l) branches) branches otherwise b others e
body_smaller p t b others e = absurd (no_body b others e)

-- a variable that isn't one of the branches' own has its first site in the body

not_bound : (y : ℕ) (us : Tree) → is_phrase Binders us ≡ true → is_bound us y ≡ false → bound_sort BelowParameter y us ≡ None
unfolding is_phrase is_bound bound_sort
not_bound y Empty w e = refl
not_bound y (Node (Binder z T) a b) w e =
    let p = or_parts (y == z) (is_bound b y) e in go (z == y) refl p.0 (not_bound y b (and_parts (is_phrase Nil a) _ w).1 p.1)
  where
    go : (v : Bool) → (z == y) ≡ v → (y == z) ≡ false → bound_sort BelowParameter y b ≡ None → cond v (Some (BelowParameter T)) (bound_sort BelowParameter y b) ≡ None
    go true f g k = absurd (both_ways (y == z) g (eq-eqb y z (sym (eqb-true z y f))))
    go false f g k = k
not_bound y (Node h a b) w e = absurd (both_ways false refl w)

binders_site : (y : ℕ) (us : Tree) → is_phrase Binders us ≡ true → site_sort y us ≡ None
unfolding is_phrase site_sort
binders_site y Empty w = refl
binders_site y (Node (Binder z T) a b) w =
    let p = and_parts (is_phrase Nil a) _ w in
    ap₂ first_of (ap (site_sort y) (nil_empty a p.0)) (binders_site y b p.1)
binders_site y (Node h a b) w = absurd (both_ways false refl w)

-- none, or that of the body
abbrev IsOfBody : ℕ → (body t : Tree) → Type 0
IsOfBody y x t = (site_sort y t ≡ None) ⊎ (site_sort y t ≡ site_sort y x)

first_or : (o u v : Option Sort) → (o ≡ None) ⊎ (o ≡ v) → (u ≡ None) ⊎ (u ≡ v) → (first_of o u ≡ None) ⊎ (first_of o u ≡ v)
first_or o u v (inl e) (inl f) = inl (ap₂ first_of e f)
first_or o u v (inl e) (inr f) = inr (ap (λ z. first_of z u) e ∙ f)
first_or None u v (inr e) k = k
first_or (Some S) u v (inr e) k = inr e

module _ (y : ℕ) (x : Tree) where
  branch_sites : (p : ℕ) (t : Tree) → is_phrase Branches t ≡ true → is_own_of t y ≡ false → AllByRecursion (λ (b : merging.Body). x ≡ b.process) (branch_bodies p t) → IsOfBody y x t
  unfolding is_phrase site_sort
  branch_sites p Empty w n k = inl refl
  branch_sites p (Node Cons (Node Branch us (Node Cons cells (Node Cons c body))) more) w n k =
      let q = and_parts (is_phrase Arm (Node Branch us (Node Cons cells (Node Cons c body)))) _ w in
      let r = and_parts (is_phrase Binders us) _ q.0 in
      let a = and_parts (is_phrase Cells cells) _ r.1 in
      let d = and_parts (is_phrase Term c) _ a.1 in
      let o = or_parts (is_bound us y) (is_own_of more y) n in
      let here : site_sort y (Node Branch us (Node Cons cells (Node Cons c body))) ≡ site_sort y x =
      (λ i. first_of (not_bound y us r.0 o.0 i) (first_of (binders_site y us r.0 i) (first_of (still_sites y cells (terms_still Cells cells refl a.0) i) (first_of (still_sites y c (term_still c d.0) i) (site_sort y body)))))
      ∙ ap (site_sort y) (sym k.0) in
      first_or (site_sort y (Node Branch us (Node Cons cells (Node Cons c body)))) (site_sort y more) (site_sort y x) (inr here)
      (branch_sites (second_place p Cons (Node Branch us (Node Cons cells (Node Cons c body)))) more q.1 o.1 k.1)
  branch_sites p (Node Cons (Node Branch us (Node Cons cells rest)) more) w n k = absurd (both_ways false refl (guarded_of us cells rest more w))
  branch_sites p (Node Cons (Node Branch us rest) more) w n k = absurd (both_ways false refl (guards_of us rest more w))
  branch_sites p t w n k = absurd (both_ways false refl w)

  if_none : (o u : Option Sort) → (o ≡ None) ⊎ (o ≡ u) → first_of o u ≡ u
  if_none o u (inl e) = ap (λ z. first_of z u) e
  if_none None u (inr e) = refl
  if_none (Some S) u (inr e) = e

  twice : (o : Option Sort) → first_of o (first_of o None) ≡ o
  twice None = refl
  twice (Some S) = refl

  then_sites : (rest : Tree) → is_phrase Then rest ≡ true → x ≡ first rest → x ≡ first (second rest) → site_sort y rest ≡ site_sort y x
  unfolding is_phrase site_sort
  then_sites (Node Cons m (Node Cons n e)) w f g =
      let r = and_parts (is_phrase Body m) _ w in
      let s = and_parts (is_phrase Body n) _ r.1 in
      (λ i. first_of (site_sort y (sym f i)) (first_of (site_sort y (sym g i)) (site_sort y (nil_empty e s.1 i)))) ∙ twice (site_sort y x)
  then_sites (Node Cons m rest) w f g = absurd (both_ways false refl (and_parts (is_phrase Body m) _ w).1)
  then_sites rest w f g = absurd (both_ways false refl w)

  if_row : (σ : Phrase) (q : Phrase × Phrase) → parts σ If ≡ Some q → (let p : Phrase × Phrase = (Term, Then) in p) ≡ q
  if_row Body q e = cc
  if_row σ q e = absurd (cc)

  find_row : (l : ℕ) (σ : Phrase) (q : Phrase × Phrase) → parts σ (Find l) ≡ Some q → (let p : Phrase × Phrase = (Branches, Body) in p) ≡ q
  find_row l Body q e = cc
  find_row l σ q e = absurd (cc)

  construct_sites : (σ : Phrase) (p : ℕ) (t : Tree) → is_phrase σ t ≡ true → is_own_at t y ≡ false → AllByRecursion (λ (b : merging.Body). x ≡ b.process) (bodies p t) → (b : merging.Body) (others : List merging.Body) → bodies p t ≡ b ∷ others
      → site_sort y t ≡ site_sort y x
  unfolding site_sort
  construct_sites σ p (Node If c rest) w k a b others z =
      let o = open_phrase σ If c rest w in
      let q = if_row σ o.0 o.1 in
      ap₂ first_of (still_sites y c (term_still c (ap (λ (q : Phrase × Phrase). is_phrase q.0 c) q ∙ o.2)))
      (then_sites rest (ap (λ (q : Phrase × Phrase). is_phrase q.1 rest) q ∙ o.3) a.0 a.1.0)
  construct_sites σ p (Node (Find l) branches otherwise) w k a b others z =
      let o = open_phrase σ (Find l) branches otherwise w in
      let q = find_row l σ o.0 o.1 in
      let r = AllByRecursion_parts (λ (b : merging.Body). x ≡ b.process) (branch_bodies (first_place p (Find l)) branches) _ a in
      ap (first_of (site_sort y branches)) (ap (site_sort y) (sym r.1.0))
      ∙ if_none (site_sort y branches) (site_sort y x) (branch_sites (first_place p (Find l)) branches (ap (λ (q : Phrase × Phrase). is_phrase q.0 branches) q ∙ o.2) k r.0)
  construct_sites σ p t w k a b others z = absurd (no_body b others z)

module _ (s : Scene) (place : ℕ) (next : Tree) (m : IsMerge s place next) (formed : is_phrase Inputs s.game ≡ true) where
  abbrev old : Tree
  old = part_at s.game place

  abbrev body : Tree
  body = m.first.process

  abbrev merged : Tree
  merged = change_at s.game place (λ t. body)

  output : is_output old ≡ true
  output = bodies_output place old m.first m.others m.stands

  replaced_there : IsReplaced old body place Process 0 s.game merged
  replaced_there = placed s.game place (λ t. body) formed output

  some_phrase : (τ : Phrase) × (is_phrase τ old ≡ true)
  some_phrase = let k = phrase_there old body place Process 0 s.game merged replaced_there Inputs formed in (k.0, k.1)

  one : IsOne place old m.first
  one = is_one some_phrase.0 place old m.first m.others some_phrase.1 m.stands m.equal

  -- the next game reads no index variable of the construct
  own_unread : reads_none (is_own_at old) merged ≡ true
  own_unread = go one.inside
    where
      go : ((y : ℕ) → is_own_at old y ≡ false) ⊎ IsInside place old m.first → reads_none (is_own_at old) merged ≡ true
      go (inl k) = nothing_reads (is_own_at old) k merged
      go (inr i) =
          let xs = is_own_at old in
          let skip = is_beside place old m.first in
          let b : reads_none xs body ≡ true = unread xs skip m.first.place body (body_kept place old m.first) (i.unnamed xs skip (unnamed_at xs skip old body place Process 0 s.game merged replaced_there m.unnamed)) in
          unread_changed xs skip old body place (outside_kept place old m.first i.from i.to) b Process 0 s.game merged replaced_there m.unnamed

  one_unread : (y : ℕ) → is_own_at old y ≡ true → (t : Tree) → reads_none (is_own_at old) t ≡ true → reads_none (only y) t ≡ true
  unfolding reads_only
  one_unread y o Empty e = refl
  one_unread y o (Node h a b) e =
      let p = and_parts (head_reads_only (λ z. not (is_own_at old z)) h) _ e in
      let q = and_parts (reads_none (is_own_at old) a) _ p.1 in
      ap₂ ◌&&◌ (head_unread h p.0) (ap₂ ◌&&◌ (one_unread y o a q.0) (one_unread y o b q.1))
    where
      other : (z : ℕ) → not (is_own_at old z) ≡ true → (v : Bool) → (z == y) ≡ v → not v ≡ true
      other z f true g = absurd (both_ways (not (is_own_at old z)) (ap not (ap (is_own_at old) (eqb-true z y g) ∙ o)) f)
      other z f false g = refl

      head_unread : (h : Head) → head_reads_only (λ z. not (is_own_at old z)) h ≡ true → head_reads_only (λ z. not (only y z)) h ≡ true
      head_unread (Leaf z) f = other z f (z == y) refl
      head_unread (Read z) f = other z f (z == y) refl
      head_unread h f = refl

  standing : subtree s.game place ≡ Some old
  standing = output_there s.game place output

  stays : (y : ℕ) (v : Bool) → is_own_at old y ≡ v → Stays s merged y ⊎ (reads_none (only y) merged ≡ true)
  stays y true e = inr (one_unread y e merged own_unread)
  stays y false e =
      inl (sites_replaced y old body (sym (construct_sites y body some_phrase.0 place old some_phrase.1 e (all_are place old m.first m.others m.stands m.equal) m.first m.others m.stands)) Inputs s.game place formed standing)

  fewer_equalities : large_equalities s body ≤ large_equalities s old
  unfolding large_equalities
  fewer_equalities =
      first_body_has (λ t. large_equalities s t ≤ large_equalities s old) (omega arith) (λ h a b k. (omega (arith, k), omega (arith, k))) place old m.first m.others m.stands (omega arith)

  pub merged_lowers : lowers s merged ≡ true
  merged_lowers =
      lower_by s merged (λ y. stays y (is_own_at old y) refl)
      (inr (
        omega (arith, equalities_replaced s old body (output_unsorted s body one.output ∙ sym (output_unsorted s old output)) s.game place standing, fewer_equalities),
        omega (arith, size_replaced s.game place old body standing, body_smaller place old m.first m.others m.stands),
      ))

pub merge_lowers : (s : Scene) (p : ℕ) (next : Tree) (cost : Cost) → is_phrase Inputs s.game ≡ true → merge_row s p ≡ Leads next cost → lowers s next ≡ true
merge_lowers s p next cost w e = let m = merge_leads s p next cost e in subst (λ t. lowers s t ≡ true) m.leads (merged_lowers s p next m w)
