-- A walk over the pairs of a certificate, step by step.
use Rattle.std.proofs.Common.{◌≡◌, ℕ, ◌+◌, ◌<◌, ◌≤◌, Bool, true, false, ◌&&◌, List, [], ◌∷◌, ◌++◌, drop, get_or, length, append_assoc, append-nil, refl, sym, ap, ap₂, ◌∙◌, Option, Some, None, is_some, subst}
use Rattle.std.specs.Prelude.{◌==◌, if◌then◌else◌, flat_map, option_map}
use Rattle.std.proofs.lemmas.List.{drop_all, drop_more}
use Rattle.cv_syntax_trees.specs.lists.Options.{first_of}
use Rattle.cv_pool.specs.KindTree.{KindTree}
use Rattle.cv_syntax_trees.specs.declared.head.Head.{Head}
use Rattle.cv_syntax_trees.specs.declared.head.Head.TheVariants.{Pair}
use Rattle.cv_syntax_trees.specs.Tree.{Tree, Empty, Node}
use Rattle.cv_syntax.specs.PoolTrees.{tree_at}
use Rattle.cv_scene.specs.Derivations.{unless}
use Rattle.cv_scene.specs.Scenes.{Scene}
use Rattle.cv_query_certificates.specs.Failures.{first_surplus}
use Rattle.cv_query_certificates.specs.Marks.{plain}
use Rattle.cv_query_certificates.specs.PairParts.{first_wrong_pair, least, pair_fault, proves_pair}
use Rattle.cv_query_certificates.specs.Pairs.{Needed}
use Rattle.cv_query_parts.specs.Countable.{IsCountable, IsCountablePart}
use Rattle.cv_query_parts.specs.declared.pairs.walk.PairPart.{PairPart}
use Rattle.cv_query_parts.specs.declared.pairs.walk.Pairing.{Pairing}
use Rattle.cv_query_parts.specs.declared.pairs.walk.Walk.{Walk}
use Rattle.cv_query_parts.specs.pairs.Walks.{Leads, PairItems, first_unproved, items_of_pair, needed_of, nothing, part_seen, wrong_of}

-- walks

module _ (trees : List KindTree) where
  -- nothing is needed
  pub stays : (w : Walk) (first : Scene → ℕ → List Needed) → ((s : Scene) (k : ℕ) → first s k ≡ []) → Leads trees w w None first nothing
  stays w first e s k ds ns = ap (λ l. wrong_of s k ds trees w None (l ++ ns)) (e s k)

  module _ (old new : Walk) (o : Option ℕ) where
    -- the same is needed
    pub as_needed : (all one rest : Scene → ℕ → List Needed) → ((s : Scene) (k : ℕ) → all s k ≡ one s k) → Leads trees old new o one rest → Leads trees old new o all rest
    as_needed all one rest e l s k ds ns = ap (λ m. wrong_of s k ds trees old None (m ++ ns)) (e s k) ∙ l s k ds ns

    pub passes : (all rest : Scene → ℕ → List Needed) → is_some o ≡ false → Leads trees old new o all rest → Leads trees old new None all rest
    passes all rest e l = let P : Option ℕ → Type 0 = λ p. Leads trees old new p all rest in subst P (go o e) l
      where
        go : (p : Option ℕ) → is_some p ≡ false → p ≡ None
        go None f = refl
        go (Some x) f = absurd (let z : true ≡ false = f in cc)

    -- where the walk stops, no pair behind counts
    pub stops : (all rest : Scene → ℕ → List Needed) → is_some o ≡ true → Leads trees old new o all rest → Leads trees old new o all nothing
    stops all rest e l s k ds ns = go o e (l s k ds ns)
      where
        go : (p : Option ℕ) → is_some p ≡ true → wrong_of s k ds trees old None (all s k ++ ns) ≡ wrong_of s k ds trees new p (rest s k ++ ns) → wrong_of s k ds trees old None (all s k ++ ns) ≡ wrong_of s k ds trees new p ns
        go None f m = absurd (let z : false ≡ true = f in cc)
        go (Some x) f m = m

  module _ (old mid new : Walk) (o : Option ℕ) (all rest one next : Scene → ℕ → List Needed) where
    pub goes_on : Leads trees old mid None all rest → ((s : Scene) (k : ℕ) → rest s k ≡ one s k ++ next s k) → Leads trees mid new o one nothing → Leads trees old new o all next
    goes_on l e m s k ds ns =
        l s k ds ns
        ∙ (ap (λ r. wrong_of s k ds trees mid None (r ++ ns)) (e s k)
        ∙ (ap (wrong_of s k ds trees mid None) (append_assoc (one s k) (next s k) ns)
        ∙ m s k ds (next s k ++ ns)))

  pub ends : (old new : Walk) (all rest : Scene → ℕ → List Needed) → Leads trees old new None all rest → ((s : Scene) (k : ℕ) → rest s k ≡ []) → Leads trees old new None all nothing
  ends old new all rest l e s k ds ns = l s k ds ns ∙ ap (λ r. wrong_of s k ds trees new None (r ++ ns)) (e s k)

-- a pair more was met

if_unless : (b : Bool) (n : ℕ) → (if b then None else Some n) ≡ unless b n
if_unless true n = refl
if_unless false n = refl

ended : (u q : Option ℕ) → first_of u q ≡ first_of (first_of u None) q
ended None q = refl
ended (Some x) q = refl

module _ (s : Scene) (k : ℕ) (ds : List ℕ) (trees : List KindTree) where
  unproved_last : (ps : List Pairing) (p : Pairing) (q : Option ℕ) → first_of (first_unproved s k ds trees ps) (first_of (unless (proves_pair s k ds (needed_of s k trees p) (plain k (tree_at trees p.by))) p.first) q) ≡ first_of (first_unproved s k ds trees (ps ++ p ∷ [])) q
  unproved_last [] p q = ended (unless (proves_pair s k ds (needed_of s k trees p) (plain k (tree_at trees p.by))) p.first) q
  unproved_last (r ∷ ps) p q = go (unless (proves_pair s k ds (needed_of s k trees r) (plain k (tree_at trees r.by))) r.first) (unproved_last ps p q)
    where
      go : (u : Option ℕ) → first_of (first_unproved s k ds trees ps) (first_of (unless (proves_pair s k ds (needed_of s k trees p) (plain k (tree_at trees p.by))) p.first) q) ≡ first_of (first_unproved s k ds trees (ps ++ p ∷ [])) q
          → first_of (first_of u (first_unproved s k ds trees ps)) (first_of (unless (proves_pair s k ds (needed_of s k trees p) (plain k (tree_at trees p.by))) p.first) q) ≡ first_of (first_of u (first_unproved s k ds trees (ps ++ p ∷ []))) q
      go None e = e
      go (Some x) e = refl

-- one part

module _ (s : Scene) (k : ℕ) (ds : List ℕ) (n : Needed) where
  abbrev same_pair : PairItems → Bool
  same_pair i = (i.first == n.first) && ((i.second == n.second) && (i.atom == n.atom))

  abbrev fault_by : Option PairItems → Option ℕ
  fault_by None = Some n.first
  fault_by (Some i) = if same_pair i then (if proves_pair s k ds n (plain k i.by) then None else Some n.first) else Some (least n.first i.first)

  fault_of : (part : Tree) → pair_fault s k ds n part ≡ fault_by (items_of_pair part)
  fault_of (Node Pair p (Node h q (Node g c by))) = refl
  fault_of part = refl

  one_wrong : (ns : List Needed) (t : Tree) (h : Head) (part more : Tree) (o : Option PairItems) → t ≡ Node h part more → o ≡ items_of_pair part → first_wrong_pair s k ds (n ∷ ns) t ≡ first_of (fault_by o) (first_wrong_pair s k ds ns more)
  one_wrong ns t h part more o e f =
      ap (first_wrong_pair s k ds (n ∷ ns)) e ∙ ap (λ p. first_of p (first_wrong_pair s k ds ns more)) (fault_of part ∙ ap fault_by (sym f))

module _ (trees : List KindTree) (w : Walk) (p : Pairing) where
  abbrev this : Scene → ℕ → List Needed
  this s k = needed_of s k trees p ∷ []

  pub lacks : tree_at trees w.left ≡ Empty → Leads trees w w (Some p.first) this nothing
  lacks e s k ds ns = ap (λ t. first_of (first_unproved s k ds trees w.met.items) (first_wrong_pair s k ds (needed_of s k trees p ∷ ns) t)) e

  module _ (h : Head) (part more : Tree) (e : tree_at trees w.left ≡ Node h part more) (o : Option PairPart) (f : option_map (part_seen trees) o ≡ items_of_pair part) where
    opened : (s : Scene) (k : ℕ) (ds : List ℕ) (ns : List Needed) → wrong_of s k ds trees w None (this s k ++ ns) ≡ first_of (first_unproved s k ds trees w.met.items) (first_of (fault_by s k ds (needed_of s k trees p) (option_map (part_seen trees) o)) (first_wrong_pair s k ds ns more))
    opened s k ds ns = ap (first_of (first_unproved s k ds trees w.met.items)) (one_wrong s k ds (needed_of s k trees p) ns (tree_at trees w.left) h part more (option_map (part_seen trees) o) e f)

    pub is_none : o ≡ None → Leads trees w w (Some p.first) this nothing
    is_none g s k ds ns =
        opened s k ds ns
        ∙ ap (λ q. first_of (first_unproved s k ds trees w.met.items) (first_of (fault_by s k ds (needed_of s k trees p) (option_map (part_seen trees) q)) (first_wrong_pair s k ds ns more))) g

    module _ (x : PairPart) (g : o ≡ Some x) (b : Bool) (i : b ≡ ((x.first == p.first) && ((x.second == p.second) && (x.atom == p.atom)))) where
      opened_pair : (s : Scene) (k : ℕ) (ds : List ℕ) (ns : List Needed) → wrong_of s k ds trees w None (this s k ++ ns)
          ≡ first_of (first_unproved s k ds trees w.met.items) (first_of (if b then (if proves_pair s k ds (needed_of s k trees p) (plain k (tree_at trees x.by)) then None else Some p.first) else Some (least p.first x.first)) (first_wrong_pair s k ds ns more))
      opened_pair s k ds ns =
          opened s k ds ns
          ∙ (ap (λ q. first_of (first_unproved s k ds trees w.met.items) (first_of (fault_by s k ds (needed_of s k trees p) (option_map (part_seen trees) q)) (first_wrong_pair s k ds ns more))) g
          ∙ ap (λ c. first_of (first_unproved s k ds trees w.met.items) (first_of (if c then (if proves_pair s k ds (needed_of s k trees p) (plain k (tree_at trees x.by)) then None else Some p.first) else Some (least p.first x.first)) (first_wrong_pair s k ds ns more))) (sym i))

      pub is_another : b ≡ false → (q : ℕ) → q ≡ least p.first x.first → Leads trees w w (Some q) this nothing
      is_another j q l s k ds ns =
          opened_pair s k ds ns
          ∙ ap₂ (λ c r. first_of (first_unproved s k ds trees w.met.items) (first_of (if c then (if proves_pair s k ds (needed_of s k trees p) (plain k (tree_at trees x.by)) then None else Some p.first) else Some r) (first_wrong_pair s k ds ns more))) j (sym l)

      pub is_met : b ≡ true → (new : Walk) (y : Pairing) → y ≡ record p { by = x.by } → new.met.items ≡ w.met.items ++ y ∷ [] → tree_at trees new.left ≡ more → Leads trees w new None this nothing
      is_met j new y l m r s k ds ns =
          let found = first_unproved s k ds trees w.met.items in
          let b = proves_pair s k ds (needed_of s k trees p) (plain k (tree_at trees x.by)) in
          let rest = first_wrong_pair s k ds ns more in
          opened_pair s k ds ns
          ∙ (ap (λ c. first_of found (first_of (if c then (if b then None else Some p.first) else Some (least p.first x.first)) rest)) j
          ∙ (ap (λ u. first_of found (first_of u rest)) (if_unless b p.first)
          ∙ (unproved_last s k ds trees w.met.items (record p { by = x.by }) rest
          ∙ ap₂ (λ ps t. first_of (first_unproved s k ds trees ps) (first_wrong_pair s k ds ns t)) (ap (λ z. w.met.items ++ z ∷ []) (sym l) ∙ sym m) (sym r))))

pub pair_countable : (part : Tree) (i : PairItems) → items_of_pair part ≡ Some i → IsCountablePart part → IsCountable i.by
pair_countable (Node Pair p (Node h q (Node g c by))) i e n = let f : by ≡ i.by = cc in subst IsCountable f n
pair_countable part i e n = absurd (let z : ◌≡◌ {A = Option PairItems} None (Some i) = e in cc)

-- a loop over pairs that are needed, item by item

module _ {A : Type 0} (trees : List KindTree) (need : A → Scene → ℕ → List Needed) (xs : List A) where
  abbrev pub all_from : ℕ → Scene → ℕ → List Needed
  all_from j s k = flat_map (λ x. need x s k) (drop j xs)

  module _ (old : Walk) (j : ℕ) (mid new : Walk) (d : A) (o : Option ℕ) (within : j < length xs) (l : Leads trees old mid None (all_from 0) (all_from j)) where
    one_more : (s : Scene) (k : ℕ) → all_from j s k ≡ need (get_or xs j d) s k ++ all_from (j + 1) s k
    one_more s k = ap (flat_map (λ x. need x s k)) (drop_more xs j d within)

    pub next : is_some o ≡ false → Leads trees mid new o (need (get_or xs j d)) nothing → Leads trees old new None (all_from 0) (all_from (j + 1))
    next e m =
        goes_on trees old mid new None (all_from 0) (all_from j) (need (get_or xs j d)) (all_from (j + 1)) l one_more
        (passes trees mid new o (need (get_or xs j d)) nothing e m)

    pub breaks : is_some o ≡ true → Leads trees mid new o (need (get_or xs j d)) nothing → Leads trees old new o (all_from 0) nothing
    breaks e m =
        stops trees old new o (all_from 0) (all_from (j + 1)) e
        (goes_on trees old mid new o (all_from 0) (all_from j) (need (get_or xs j d)) (all_from (j + 1)) l one_more m)

  pub ends_all : (old new : Walk) (j : ℕ) → length xs ≤ j → Leads trees old new None (all_from 0) (all_from j) → Leads trees old new None (all_from 0) nothing
  ends_all old new j l m = ends trees old new (all_from 0) (all_from j) m (λ s k. ap (flat_map (λ x. need x s k)) (drop_all j xs l))

-- all of it

surplus : (s : Scene) (k : ℕ) (ds : List ℕ) (t : Tree) → first_wrong_pair s k ds [] t ≡ first_surplus t
surplus s k ds Empty = refl
surplus s k ds (Node h part more) = refl

module _ (trees : List KindTree) (old new : Walk) (all : Scene → ℕ → List Needed) (start : old.met.items ≡ []) (s : Scene) (k : ℕ) (ds : List ℕ) where
  begun : wrong_of s k ds trees old None (all s k ++ []) ≡ first_wrong_pair s k ds (all s k) (tree_at trees old.left)
  begun = ap₂ (λ ps ns. first_of (first_unproved s k ds trees ps) (first_wrong_pair s k ds ns (tree_at trees old.left))) start (append-nil (all s k))

  pub all_stopped : (o : Option ℕ) (x : ℕ) → o ≡ Some x → Leads trees old new o all nothing → first_wrong_pair s k ds (all s k) (tree_at trees old.left) ≡ first_of (first_unproved s k ds trees new.met.items) (Some x)
  all_stopped o x e l = sym begun ∙ (l s k ds [] ∙ ap (λ p. first_of (first_unproved s k ds trees new.met.items) (first_of p (first_wrong_pair s k ds [] (tree_at trees new.left)))) e)

  pub all_gone : (o r : Option ℕ) → o ≡ None → r ≡ first_surplus (tree_at trees new.left) → Leads trees old new o all nothing → first_wrong_pair s k ds (all s k) (tree_at trees old.left) ≡ first_of (first_unproved s k ds trees new.met.items) r
  all_gone o r e f l =
      sym begun
      ∙ (l s k ds []
      ∙ (ap (λ p. first_of (first_unproved s k ds trees new.met.items) (first_of p (first_wrong_pair s k ds [] (tree_at trees new.left)))) e
      ∙ ap (first_of (first_unproved s k ds trees new.met.items)) (surplus s k ds (tree_at trees new.left) ∙ sym f)))
