-- All candidates of a visited `find`, and those of the one with copies of its branches.
use Rattle.std.proofs.Common.{◌≡◌, ℕ, suc, ◌+◌, ◌==◌, ◌||◌, max, Bool, true, false, List, [], ◌∷◌, map, length, flat_map, Option, Some, None, refl, sym, ap, ap₂, subst, ◌∙◌, arith, append-nil, eqb-true}
use Rattle.std.proofs.lemmas.Bool.{and_parts, both_ways, or_left, or_right}
use Rattle.cv_syntax_trees.specs.declared.head.Head.{Head}
use Rattle.cv_syntax_trees.specs.declared.head.Head.TheVariants.{Branch, Cons}
use Rattle.cv_syntax_trees.specs.Tree.{Tree, Empty, Node, first, first_place, second_place}
use Rattle.cv_meaning.specs.Interpretation.{Setting}
use Rattle.cv_meaning.specs.Memory.{Happened, Indices, Store, tuple}
use Rattle.cv_meaning.specs.Binders.{binder_count, widest_binder}
use Rattle.cv_meaning.specs.Candidates.{Candidate, candidate, candidates, candidates_at, most_indices, tuples_up_to, widest}
use Rattle.cv_meaning_runs.specs.Simulation.{InOrder}
use Rattle.cv_meaning_runs.proofs.Simulation.{in_order_append}
use Rattle.cv_meaning_runs.proofs.Replacement.{in_order_flat}
use Rattle.cv_scope_rules.specs.Context.{Context}
use Rattle.cv_scope_rules.specs.Made.{is_bound, is_own_of, made_by}
use Rattle.cv_scope_rules.specs.Phrases.{Phrase, Arm as ArmPhrase, Binders, Branches, is_oracle_phrase}
use Rattle.cv_scope_rules.specs.Sites.{Variable}
use Rattle.cv_scope_runs.specs.Reads.{IsKept}
use Rattle.cv_scope_runs.proofs.Contexts.{Holds, Matches}
use Rattle.cv_scope_runs.proofs.Games.{Game, stands_phrase}
use Rattle.cv_scope_runs.proofs.PathRuns.{GuardsShape, guards_shape, shape}
use Rattle.cv_scope_runs.proofs.Standing.{Stands, in_first, in_second}
use Rattle.cv_edit_names.specs.Cells.{are_mixed, cells_in, first_mixed, first_unnamed}
use Rattle.cv_edit_names.specs.Naming.{Naming, name_at}
use Rattle.cv_rule_array_names.specs.Sites.{are_apart}
use Rattle.cv_edit_names.specs.Splitting.{Around, behind, copies_for, copies_of, followed_by, looking_for, split_branches}
use Rattle.cv_rule_array_names.proofs.Stores.{AreSplit, Free, is_name}
use Rattle.cv_rule_array_names.proofs.Values.{AreVariables, Unread, unread_first, unread_second}
use Rattle.cv_rule_array_names.proofs.Arms.{Arm, IsAt, IsNth, arm_tree, copy_of, count_renamed, here, later, this, widest_renamed}
use Rattle.cv_rule_array_names.proofs.Around.{IsAround, list_unmixed, stands_free, stands_unmixed}
use Rattle.cv_rule_array_names.proofs.Copies.{Copied, at_behind, before_others, candidates_of, one_copied, one_owner}
use Rattle.cv_rule_array_names.proofs.Branches.{CopyFact, other_fails, owner_fact, owner_same, plain_fact, plain_same, where_to}

-- what the step asks of the game, and that each definition has one of the names
pub record IsSplitting (game : Tree) (n : Naming) : Type 0 where
  pub free : Free n.names game
  pub unmixed : first_mixed n.variable 0 game ≡ None
  pub apart : are_apart n.names ≡ true
  pub one : ℕ
  pub more : List ℕ
  pub names : n.names ≡ one ∷ more
  pub sites : (q : ℕ) (σ : Phrase) (Γ : Context) (h : Head) (a b : Tree) → Stands game q σ Γ (Node h a b) → made_by h a (Variable n.variable) ≡ true → is_name n.names (name_at n q) ≡ true

-- shapes

pub data ArmShape : Tree → Type 0 where
  arm : (a : Arm) → ArmShape (arm_tree a)

abbrev pub arm_of : (us cells c body : Tree) → Arm
arm_of us cells c body = record { indices = us; cells = cells; condition = c; body = body }

-- copies of a branch

map_twice : {A B C : Type 0} (f : B → C) (h : A → B) (zs : List A) → map f (map h zs) ≡ map (λ y. f (h y)) zs
map_twice f h [] = refl
map_twice f h (z ∷ zs) = ap (λ ws. f (h z) ∷ ws) (map_twice f h zs)

unread_rest : (x : ℕ) (bs : List Tree) (rest : Tree) → Unread x (followed_by bs rest) → Unread x rest
unread_rest x [] rest u = u
unread_rest x (b ∷ bs) rest u = unread_rest x bs rest (unread_second x Cons b (followed_by bs rest) u)

unread_copy : (x : ℕ) (f : ℕ → Tree) (zs : List ℕ) (rest : Tree) → Unread x (followed_by (map f zs) rest) → (y : ℕ) → is_name zs y ≡ true → Unread x (f y)
unread_copy x f [] rest u y e = absurd (both_ways _ refl e)
unread_copy x f (z ∷ zs) rest u y e = go (z == y) refl (unread_copy x f zs rest (unread_second x Cons (f z) _ u) y) e
  where
    go : (b : Bool) → (z == y) ≡ b → (is_name zs y ≡ true → Unread x (f y)) → (b || is_name zs y) ≡ true → Unread x (f y)
    go true i ih k = subst (λ w. Unread x (f w)) (eqb-true z y i) (unread_first x Cons (f z) _ u)
    go false i ih k = ih k

-- bounds

max_twice : (a b c : ℕ) → a ≡ b → max a (max b c) ≡ max b c
max_twice a b c e = omega arith

most_copies : (n : Naming) (q : ℕ) (a : Arm) (d : Around) (ds : List Around) (rest : Tree) → most_indices (followed_by (map (copy_of n q a) (d ∷ ds)) rest) ≡ max (binder_count a.indices) (most_indices rest)
most_copies n q a d [] rest = ap (λ c. max c (most_indices rest)) (count_renamed n.variable (name_at n q) a.indices)
most_copies n q a d (f ∷ ds) rest =
    ap (max (binder_count (first (copy_of n q a d)))) (most_copies n q a f ds rest) ∙ max_twice _ (binder_count a.indices) (most_indices rest) (count_renamed n.variable (name_at n q) a.indices)

widest_copies : (size : ℕ → ℕ) (n : Naming) (q : ℕ) (a : Arm) (d : Around) (ds : List Around) (rest : Tree) → widest size (followed_by (map (copy_of n q a) (d ∷ ds)) rest) ≡ max (widest_binder size a.indices) (widest size rest)
widest_copies size n q a d [] rest = ap (λ c. max c (widest size rest)) (widest_renamed n.variable (name_at n q) size a.indices)
widest_copies size n q a d (f ∷ ds) rest =
    ap (max (widest_binder size (first (copy_of n q a d)))) (widest_copies size n q a f ds rest) ∙ max_twice _ (widest_binder size a.indices) (widest size rest) (widest_renamed n.variable (name_at n q) size a.indices)

-- there is a copy at least
pub record HasCopy (ds : List Around) : Type 0 where
  pub one : Around
  pub more : List Around
  pub is : ds ≡ one ∷ more

pub has_copy : (n : Naming) (game : Tree) → IsSplitting game n → (e : Around) (w : Option Tree) → HasCopy (copies_for n e w)
has_copy n game p e None = record { one = e; more = []; is = refl }
has_copy n game p e (Some c) = record { one = looking_for e c p.one; more = map (looking_for e c) p.more; is = ap (map (looking_for e c)) p.names }

module _ (g : Setting) (variable : ℕ → Bool) (game : Tree) (fine : Game g variable game) where
  pub arm_shape : (b : Tree) → is_oracle_phrase ArmPhrase b ≡ true → ArmShape b
  unfolding is_oracle_phrase
  arm_shape Empty f = absurd (both_ways false refl f)
  arm_shape (Node Branch us rest) f = go rest (guards_shape g variable game fine rest (and_parts (is_oracle_phrase Binders us) _ f).1)
    where
      go : (rest : Tree) → GuardsShape g variable game fine rest → ArmShape (Node Branch us rest)
      go _ (shape cells c body) = arm (arm_of us cells c body)
  arm_shape (Node h us rest) f = absurd (both_ways false refl f)

  pub branch_phrases : (h : Head) (b more : Tree) → is_oracle_phrase Branches (Node h b more) ≡ true → (h ≡ Cons) × (is_oracle_phrase ArmPhrase b ≡ true) × (is_oracle_phrase Branches more ≡ true)
  unfolding is_oracle_phrase
  branch_phrases Cons b more f = let r = and_parts (is_oracle_phrase ArmPhrase b) _ f in (refl, r.0, r.1)
  branch_phrases h b more f = absurd (both_ways false refl f)

  module _ (n : Naming) (p : IsSplitting game n) (o : List ℕ → ℕ) (owns : (w : List ℕ) → is_name n.names (o w) ≡ true) (end : Store)
      (Γ : Context) (at : Indices) (m k : Store) (es : List Happened) (matches : Matches g variable Γ.replications at) (holds : Holds g variable Γ at m es) (kept : IsKept m end) (vars : AreVariables g n.variable n.names at)
      (s : AreSplit n.variable n.names o m k) (e : Around) (around : IsAround g variable n.variable o end e Γ at) where
    abbrev x : ℕ
    x = n.variable

    abbrev ys : List ℕ
    ys = n.names

    record SameBounds (B : Tree) (q : ℕ) : Type 0 where
      most : most_indices (split_branches n e q B) ≡ most_indices B
      wide : widest g.interpretation.parameter_value (split_branches n e q B) ≡ widest g.interpretation.parameter_value B

    bounds_same : (B : Tree) (q : ℕ) → is_oracle_phrase Branches B ≡ true → SameBounds B q
    unfolding split_branches
    bounds_same Empty q f = record { most = refl; wide = refl }
    bounds_same (Node h b more) q f =
        let r = branch_phrases h b more f in
        go h r.0 b (arm_shape b r.1) (λ w. bounds_same more w r.2)
      where
        go : (h : Head) → h ≡ Cons → (b : Tree) → ArmShape b → ((w : ℕ) → SameBounds more w) → SameBounds (Node h b more) q
        go h z _ (arm a) ih =
            let c : HasCopy (copies_of n (behind n (first_place q Cons) Branch a.indices e) a.cells) = has_copy n game p (behind n (first_place q Cons) Branch a.indices e) (first_unnamed (behind n (first_place q Cons) Branch a.indices e).looked_for (cells_in n.variable a.cells)) in
            let rest : Tree = split_branches n e (second_place q Cons (arm_tree a)) more in
            let later : SameBounds more (second_place q Cons (arm_tree a)) = ih (second_place q Cons (arm_tree a)) in
            subst (λ k. SameBounds (Node k (arm_tree a) more) q) (sym z)
            (record {
              most = ap (λ ds. most_indices (followed_by (map (copy_of n (first_place q Cons) a) ds) rest)) c.is ∙ most_copies n (first_place q Cons) a c.one c.more rest ∙ ap (max (binder_count a.indices)) later.most;
              wide = ap (λ ds. widest g.interpretation.parameter_value (followed_by (map (copy_of n (first_place q Cons) a) ds) rest)) c.is
                  ∙ widest_copies g.interpretation.parameter_value n (first_place q Cons) a c.one c.more rest ∙ ap (max (widest_binder g.interpretation.parameter_value a.indices)) later.wide;
            })

    module _ (branches : Tree) (place : ℕ) (u : List ℕ) where
      abbrev others : Tree
      others = split_branches n e place branches

      abbrev pub Goes : Candidate → Candidate → Type 0
      Goes = Copied g x ys o owns p.apart at m k n (CopyFact g n o Γ at m e) place branches others

      module _ (q : ℕ) (a : Arm) (stands : Stands game q ArmPhrase Γ (arm_tree a)) (clear : (y : ℕ) → is_bound a.indices y ≡ true → m y (tuple at) ≡ None) (i j : ℕ) (nth : IsNth i place branches q (arm_tree a)) where
        abbrev there_too : Around
        there_too = behind n q Branch a.indices e

        named_site : is_bound a.indices x ≡ true → is_name ys (name_at n q) ≡ true
        named_site h = p.sites q ArmPhrase Γ Branch a.indices _ stands h

        free_arm : Free ys (arm_tree a)
        free_arm = stands_free ys game p.free stands

        unmixed_arm : are_mixed (cells_in x a.cells) ≡ false
        unmixed_arm = list_unmixed x q a.indices (Node Cons a.cells (Node Cons a.condition a.body)) (stands_unmixed x game p.unmixed stands)

        arm_copied : (w : Option Tree) → first_unnamed there_too.looked_for (cells_in x a.cells) ≡ w → (rest : Tree) → Unread x (followed_by (map (copy_of n q a) (copies_for n there_too w)) rest)
            → ((r : ℕ) (b : Tree) → IsAt r (followed_by (map (copy_of n q a) (copies_for n there_too w)) rest) b → IsAt (r + j) others b)
            → InOrder Goes (candidate g at m u i (arm_tree a)) (candidates_of g at k u j (map (copy_of n q a) (copies_for n there_too w)))
        arm_copied None c rest unread lift =
            subst (InOrder Goes (candidate g at m u i (arm_tree a))) (sym (append-nil (candidate g at k u j (copy_of n q a there_too))))
            (one_copied g x ys o owns p.apart at m k n (CopyFact g n o Γ at m e) place branches others u q a i nth there_too j (subst (λ w. IsAt w others (copy_of n q a there_too)) (let z : 0 + j ≡ j = omega arith in z) (lift 0 (copy_of n q a there_too) here))
            (λ f. plain_same g variable game fine n o owns end Γ at m k es matches holds kept vars s e around q a stands named_site free_arm unmixed_arm clear u c (unread_first x Cons (copy_of n q a there_too) rest unread))
            (λ f. plain_fact g variable game fine n o owns end Γ at m k es matches holds kept vars s e around q a stands named_site free_arm unmixed_arm clear u))
        arm_copied (Some d) c rest unread lift =
            let owner : ℕ = o (where_to g variable game fine n o owns end Γ at m k es matches holds kept vars s e around q a stands named_site free_arm unmixed_arm clear u d c) in
            let twice : map (copy_of n q a) (map (looking_for there_too d) ys) ≡ map (λ y. copy_of n q a (looking_for there_too d y)) ys = map_twice (copy_of n q a) (looking_for there_too d) ys in
            let unread_all : Unread x (followed_by (map (λ y. copy_of n q a (looking_for there_too d y)) ys) rest) = subst (λ bs. Unread x (followed_by bs rest)) twice unread in
            let unread_one : (y : ℕ) → is_name ys y ≡ true → Unread x (copy_of n q a (looking_for there_too d y)) = λ y h. unread_copy x (λ y. copy_of n q a (looking_for there_too d y)) ys rest unread_all y h in
            subst (λ bs. InOrder Goes (candidate g at m u i (arm_tree a)) (candidates_of g at k u j bs)) (sym twice)
            (one_owner g x ys o owns p.apart at m k n (CopyFact g n o Γ at m e) place branches others u q a i nth (looking_for there_too d) owner
            (λ y h z f. other_fails g variable game fine n o owns end Γ at m k es matches holds kept vars s e around q a stands named_site free_arm unmixed_arm clear u d c y h z (unread_one y h))
            (λ f. owner_same g variable game fine n o owns end Γ at m k es matches holds kept vars s e around q a stands named_site free_arm unmixed_arm clear u d c (unread_one owner (owns _)))
            (λ f. owner_fact g variable game fine n o owns end Γ at m k es matches holds kept vars s e around q a stands named_site free_arm unmixed_arm clear u d c)
            ys j rest (λ r b h. lift r b (subst (λ bs. IsAt r (followed_by bs rest) b) (sym twice) h)) p.apart (owns _) (λ w h. h))

      all_copied : (B : Tree) (q : ℕ) → Stands game q Branches Γ B → ((y : ℕ) → is_own_of B y ≡ true → m y (tuple at) ≡ None) → Unread x (split_branches n e q B) → (i j : ℕ)
          → ((r w : ℕ) (b : Tree) → IsNth r q B w b → IsNth (r + i) place branches w b) → ((r : ℕ) (b : Tree) → IsAt r (split_branches n e q B) b → IsAt (r + j) others b)
          → InOrder Goes (candidates_at g at m u i B) (candidates_at g at k u j (split_branches n e q B))
      unfolding split_branches candidates_at
      all_copied Empty q st clear unread i j nth lift = tt
      all_copied (Node h b more) q st clear unread i j nth lift =
          let r = branch_phrases h b more (stands_phrase g variable game fine st) in
          go h r.0 b (arm_shape b r.1) st clear unread nth lift (λ w z c v a l f. all_copied more w z c v (suc i) a l f)
        where
          go : (h : Head) → h ≡ Cons → (b : Tree) → ArmShape b → Stands game q Branches Γ (Node h b more) → ((y : ℕ) → is_own_of (Node h b more) y ≡ true → m y (tuple at) ≡ None) → Unread x (split_branches n e q (Node h b more))
              → ((r w : ℕ) (c : Tree) → IsNth r q (Node h b more) w c → IsNth (r + i) place branches w c) → ((r : ℕ) (c : Tree) → IsAt r (split_branches n e q (Node h b more)) c → IsAt (r + j) others c)
              → ((w : ℕ) → Stands game w Branches Γ more → ((y : ℕ) → is_own_of more y ≡ true → m y (tuple at) ≡ None) → Unread x (split_branches n e w more) → (a : ℕ)
              → ((r v : ℕ) (c : Tree) → IsNth r w more v c → IsNth (r + suc i) place branches v c) → ((r : ℕ) (c : Tree) → IsAt r (split_branches n e w more) c → IsAt (r + a) others c)
              → InOrder Goes (candidates_at g at m u (suc i) more) (candidates_at g at k u a (split_branches n e w more)))
              → InOrder Goes (candidates_at g at m u i (Node h b more)) (candidates_at g at k u j (split_branches n e q (Node h b more)))
          go Cons z _ (arm a) st clear unread nth lift ih =
              let w : ℕ = first_place q Cons in
              let v : ℕ = second_place q Cons (arm_tree a) in
              let around_it : Around = behind n w Branch a.indices e in
              let bs : List Tree = map (copy_of n w a) (copies_of n around_it a.cells) in
              let rest : Tree = split_branches n e v more in
              subst (InOrder Goes (candidates_at g at m u i (Node Cons (arm_tree a) more))) (sym (before_others g at k u j bs rest))
              (in_order_append Goes _ _ _ _
              (arm_copied w a (in_first refl st) (λ y h. clear y (or_left (is_bound a.indices y) _ h)) i j (subst (λ r. IsNth r place branches w (arm_tree a)) (let f : 0 + i ≡ i = omega arith in f) (nth 0 w (arm_tree a) this))
              (first_unnamed around_it.looked_for (cells_in x a.cells)) refl rest unread lift)
              (ih v (in_second refl st) (λ y h. clear y (or_right (is_bound a.indices y) _ h)) (unread_rest x bs rest unread) (j + length bs)
              (λ r l c h. subst (λ t. IsNth t place branches l c) (let f : suc r + i ≡ r + suc i = omega arith in f) (nth (suc r) l c (later h)))
              (λ r c h. subst (λ t. IsAt t others c) (let f : length bs + r + j ≡ r + (j + length bs) = omega arith in f) (lift (length bs + r) c (at_behind bs rest r c h)))))
          go h z b sh st clear unread nth lift ih = absurd (cc)

    pub found_in_order : (branches : Tree) (place : ℕ) → Stands game place Branches Γ branches → ((y : ℕ) → is_own_of branches y ≡ true → m y (tuple at) ≡ None) → Unread x (split_branches n e place branches)
        → InOrder (Copied g x ys o owns p.apart at m k n (CopyFact g n o Γ at m e) place branches (split_branches n e place branches)) (candidates g at m branches) (candidates g at k (split_branches n e place branches))
    unfolding candidates
    found_in_order branches place st clear unread =
        let b : SameBounds branches place = bounds_same branches place (stands_phrase g variable game fine st) in
        let R : Candidate → Candidate → Type 0 = Copied g x ys o owns p.apart at m k n (CopyFact g n o Γ at m e) place branches (split_branches n e place branches) in
        subst (λ us. InOrder R (candidates g at m branches) (flat_map (λ u. candidates_at g at k u 0 (split_branches n e place branches)) us))
        (ap₂ tuples_up_to (sym b.most) (sym b.wide))
        (in_order_flat R _ _
        (λ u. all_copied branches place u branches place st clear unread 0 0 (λ r w c h. subst (λ t. IsNth t place branches w c) (let f : r ≡ r + 0 = omega arith in f) h)
        (λ r c h. subst (λ t. IsAt t (split_branches n e place branches) c) (let f : r ≡ r + 0 = omega arith in f) h))
        (tuples_up_to (most_indices branches) (widest g.interpretation.parameter_value branches)))
