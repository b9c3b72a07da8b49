-- The walk over the pairs that the copies of a variable need.
use Rattle.std.proofs.Common.{◌≡◌, ℕ, Bool, true, false, ◌&&◌, ◌||◌, List, [], ◌∷◌, ◌++◌, map, append_assoc, append-nil, refl, sym, ap, ap₂, ◌∙◌, Option, Some, None, is_some, subst}
use Rattle.std.specs.Prelude.{◌==◌, if◌then◌else◌, option_map}
use Rattle.cv_syntax_trees.specs.lists.Options.{first_of}
use Rattle.cv_pool.specs.declared.node.NodeId.{NodeId}
use Rattle.cv_pool.specs.KindTree.{KindTree}
use Rattle.cv_syntax_trees.specs.declared.head.Head.{Head}
use Rattle.cv_syntax_trees.specs.declared.head.Head.TheVariants.{Eq, SecretPair}
use Rattle.cv_syntax_trees.specs.Tree.{Tree, Empty, Node, chain}
use Rattle.cv_syntax.specs.PoolTrees.{tree_at}
use Rattle.cv_scope_rules.specs.Context.{items}
use Rattle.cv_scene.specs.Late.{index_term}
use Rattle.cv_scene.specs.lines.Ends.{is_end}
use Rattle.cv_scene.specs.lines.Lines.{Holds, lines_of, statements}
use Rattle.cv_scene.specs.lines.Truths.{no}
use Rattle.cv_scene.specs.Pairs.{second_indices}
use Rattle.cv_scene.specs.Scenes.{Scene}
use Rattle.cv_scene.specs.Terms.{replications_at}
use Rattle.cv_query_certificates.specs.Failures.{first_surplus}
use Rattle.cv_query_certificates.specs.Marks.{plain}
use Rattle.cv_query_certificates.specs.PairParts.{least, saying}
use Rattle.cv_query_certificates.specs.Pairs.{equations_between}
use Rattle.cv_query_certificates.specs.SecretPairs.{Copy, NeededSecret, ends_secret, first_wrong_secret, proves_secret, secret_pair, secret_pair_fault}
use Rattle.cv_query_parts.specs.Countable.{IsCountable, IsCountablePart}
use Rattle.cv_query_entries.specs.ends.Said.{said_equal}
use Rattle.cv_query_parts.specs.declared.pairs.secrets.SecretPart.{SecretPart}
use Rattle.cv_query_parts.specs.pairs.Secrets.{SecretItems, items_of_secret, secret_seen}
use Rattle.cv_query.specs.declared.pairs.secrets.CopyPair.{CopyPair}
use Rattle.cv_query.specs.declared.pairs.ends.Ends.{Ends}
use Rattle.cv_query.specs.pairs.CopyPairs.{Goes, lists_of_both, needed_by_pair, needed_of_both}
use Rattle.cv_query.specs.pairs.Proved.{has_end, has_right_lines, is_proved}

-- what the last lines say

said_equations : (ms ns : List Tree) → statements (lines_of (saying (equations_between ms ns))) ≡ said_equal (chain ms) (chain ns)
unfolding lines_of statements
said_equations [] ns = refl
said_equations (m ∷ ms) [] = refl
said_equations (m ∷ ms) (n ∷ ns) = ap (λ us. Holds (Node Eq m n) ∷ us) (said_equations ms ns)

said_no : statements (lines_of (saying (no ∷ []))) ≡ Holds no ∷ []
unfolding lines_of statements
said_no = refl

or_nothing : (b : Bool) → (b || false) ≡ b
or_nothing true = refl
or_nothing false = refl

secret_ends : (s : Scene) (k p q : ℕ) (by : Tree) → ends_secret s k p q by
    ≡ has_end true true by (chain (map index_term (replications_at s p))) (chain (map index_term (second_indices k (replications_at s q))))
secret_ends s k p q by =
    ap₂ (λ us vs. is_end (statements (lines_of by)) us || (is_end (statements (lines_of by)) vs || false)) (said_equations (map index_term (replications_at s p)) (map index_term (second_indices k (replications_at s q)))) said_no
    ∙ ap (λ b. is_end (statements (lines_of by)) (said_equal (chain (map index_term (replications_at s p))) (chain (map index_term (second_indices k (replications_at s q))))) || b) (or_nothing (is_end (statements (lines_of by)) (Holds no ∷ [])))

items_chain : (ts : List Tree) → items (chain ts) ≡ ts
items_chain [] = refl
items_chain (t ∷ ts) = ap (λ us. t ∷ us) (items_chain ts)

-- what is tested of the lists
pub copies_proved : (s : Scene) (k : ℕ) (ds : List ℕ) (e : Ends) (trees : List KindTree) (p : CopyPair) → ds ≡ [] → e.same ≡ true → e.never ≡ true
    → is_proved s p.one.place p.other.place k ds e (lists_of_both s k trees p) ≡ proves_secret s k (needed_by_pair s k trees p) (plain k (tree_at trees p.by))
copies_proved s k ds e trees p d f g =
    let n = needed_by_pair s k trees p in
    let by = plain k (tree_at trees p.by) in
    let ones = chain (map index_term (replications_at s p.one.place)) in
    let others = chain (map index_term (second_indices k (replications_at s p.other.place))) in
    ap₂ (λ ts us. has_right_lines s n.first n.second k ts us by && has_end e.same e.never by ones others) (items_chain n.given) d
    ∙ (ap₂ (λ b c. has_right_lines s n.first n.second k n.given [] by && has_end b c by ones others) f g
    ∙ ap (λ b. has_right_lines s n.first n.second k n.given [] by && b) (sym (secret_ends s k n.first n.second by)))

-- walks

module _ (s : Scene) (k : ℕ) (trees : List KindTree) where
  pub nothing_needed : (left : Option NodeId) (first : List NeededSecret) → first ≡ [] → Goes s k trees left left None first []
  nothing_needed left first e ns = ap (λ l. first_wrong_secret s k (l ++ ns) (tree_at trees left)) e

  module _ (old new : Option NodeId) (o : Option ℕ) where
    -- the same is needed
    pub as_needed : (all one rest : List NeededSecret) → all ≡ one → Goes s k trees old new o one rest → Goes s k trees old new o all rest
    as_needed all one rest e l ns = ap (λ m. first_wrong_secret s k (m ++ ns) (tree_at trees old)) e ∙ l ns

    pub passes : (all rest : List NeededSecret) → is_some o ≡ false → Goes s k trees old new o all rest → Goes s k trees old new None all rest
    passes all rest e l = let P : Option ℕ → Type 0 = λ p. Goes s k trees old new p all rest in subst P (go o e) l
      where
        go : (p : Option ℕ) → is_some p ≡ false → p ≡ None
        go None f = refl
        go (Some x) f = absurd (let z : true ≡ false = f in cc)

    -- where the walk stops, no pair behind counts
    pub stops : (all rest : List NeededSecret) → is_some o ≡ true → Goes s k trees old new o all rest → Goes s k trees old new o all []
    stops all rest e l ns = go o e (l ns)
      where
        go : (p : Option ℕ) → is_some p ≡ true → first_wrong_secret s k (all ++ ns) (tree_at trees old) ≡ first_of p (first_wrong_secret s k (rest ++ ns) (tree_at trees new))
            → first_wrong_secret s k (all ++ ns) (tree_at trees old) ≡ first_of p (first_wrong_secret s k ns (tree_at trees new))
        go None f m = absurd (let z : false ≡ true = f in cc)
        go (Some x) f m = m

  pub goes_on : (old mid new : Option NodeId) (o : Option ℕ) (all rest one next : List NeededSecret) → Goes s k trees old mid None all rest → rest ≡ one ++ next → Goes s k trees mid new o one [] → Goes s k trees old new o all next
  goes_on old mid new o all rest one next l e m ns =
      l ns ∙ (ap (λ r. first_wrong_secret s k (r ++ ns) (tree_at trees mid)) e ∙ (ap (λ r. first_wrong_secret s k r (tree_at trees mid)) (append_assoc one next ns) ∙ m (next ++ ns)))

  pub ends : (old new : Option NodeId) (all rest : List NeededSecret) → rest ≡ [] → Goes s k trees old new None all rest → Goes s k trees old new None all []
  ends old new all rest e l ns = l ns ∙ ap (λ r. first_wrong_secret s k (r ++ ns) (tree_at trees new)) e

  -- all of it

  module _ (old new : Option NodeId) (all : List NeededSecret) where
    pub all_stopped : (o : Option ℕ) (x : ℕ) → o ≡ Some x → Goes s k trees old new o all [] → Some x ≡ first_wrong_secret s k all (tree_at trees old)
    all_stopped o x e l =
        sym (ap (λ m. first_wrong_secret s k m (tree_at trees old)) (sym (append-nil all)) ∙ (l [] ∙ ap (λ p. first_of p (first_wrong_secret s k [] (tree_at trees new))) e))

    pub all_gone : (o r : Option ℕ) → o ≡ None → r ≡ first_surplus (tree_at trees new) → Goes s k trees old new o all [] → r ≡ first_wrong_secret s k all (tree_at trees old)
    all_gone o r e f l =
        f
        ∙ sym (ap (λ m. first_wrong_secret s k m (tree_at trees old)) (sym (append-nil all)) ∙ (l [] ∙ (ap (λ p. first_of p (first_wrong_secret s k [] (tree_at trees new))) e ∙ surplus (tree_at trees new))))
      where
        surplus : (t : Tree) → first_wrong_secret s k [] t ≡ first_surplus t
        surplus Empty = refl
        surplus (Node h part more) = refl

  -- two copies of one variable, or of two

  pub of_one : (c d : Copy) (b : Bool) → b ≡ (c.source == d.source) → b ≡ true → secret_pair s k c d ≡ needed_of_both s k c d ∷ []
  of_one c d b e f = ap (λ x. if x then needed_of_both s k c d ∷ [] else []) (sym e ∙ f)

  pub of_two : (c d : Copy) (b : Bool) → b ≡ (c.source == d.source) → b ≡ false → secret_pair s k c d ≡ []
  of_two c d b e f = ap (λ x. if x then needed_of_both s k c d ∷ [] else []) (sym e ∙ f)

  -- one part

  module _ (n : NeededSecret) where
    abbrev fault_by : Option SecretItems → Option ℕ
    fault_by None = Some n.first
    fault_by (Some i) = if (i.first == n.first) && (i.second == n.second) then (if proves_secret s k n (plain k i.by) then None else Some n.first) else Some (least n.first i.first)

    fault_of : (part : Tree) → secret_pair_fault s k n part ≡ fault_by (items_of_secret part)
    fault_of (Node SecretPair p (Node h q by)) = refl
    fault_of part = refl

    module _ (left : Option NodeId) where
      pub lacks : (q : ℕ) → q ≡ n.first → tree_at trees left ≡ Empty → Goes s k trees left left (Some q) (n ∷ []) []
      lacks q f e ns = ap (first_wrong_secret s k (n ∷ ns)) e ∙ ap Some (sym f)

      module _ (h : Head) (part more : Tree) (e : tree_at trees left ≡ Node h part more) (o : Option SecretPart) (f : option_map (secret_seen trees) o ≡ items_of_secret part) where
        opened : (ns : List NeededSecret) → first_wrong_secret s k (n ∷ ns) (tree_at trees left) ≡ first_of (fault_by (option_map (secret_seen trees) o)) (first_wrong_secret s k ns more)
        opened ns = ap (first_wrong_secret s k (n ∷ ns)) e ∙ ap (λ p. first_of p (first_wrong_secret s k ns more)) (fault_of part ∙ ap fault_by (sym f))

        pub is_none : o ≡ None → Goes s k trees left left (Some n.first) (n ∷ []) []
        is_none g ns = opened ns ∙ ap (λ q. first_of (fault_by (option_map (secret_seen trees) q)) (first_wrong_secret s k ns more)) g

        module _ (x : SecretPart) (g : o ≡ Some x) (b : Bool) (i : b ≡ ((x.first == n.first) && (x.second == n.second))) where
          opened_pair : (ns : List NeededSecret) → first_wrong_secret s k (n ∷ ns) (tree_at trees left)
              ≡ first_of (if b then (if proves_secret s k n (plain k (tree_at trees x.by)) then None else Some n.first) else Some (least n.first x.first)) (first_wrong_secret s k ns more)
          opened_pair ns =
              opened ns
              ∙ (ap (λ q. first_of (fault_by (option_map (secret_seen trees) q)) (first_wrong_secret s k ns more)) g
              ∙ ap (λ c. first_of (if c then (if proves_secret s k n (plain k (tree_at trees x.by)) then None else Some n.first) else Some (least n.first x.first)) (first_wrong_secret s k ns more)) (sym i))

          pub is_another : b ≡ false → (q : ℕ) → q ≡ least n.first x.first → Goes s k trees left left (Some q) (n ∷ []) []
          is_another j q l ns =
              opened_pair ns
              ∙ ap₂ (λ c r. first_of (if c then (if proves_secret s k n (plain k (tree_at trees x.by)) then None else Some n.first) else Some r) (first_wrong_secret s k ns more)) j (sym l)

          module _ (j : b ≡ true) (v : Bool) (m : v ≡ proves_secret s k n (plain k (tree_at trees x.by))) where
            opened_test : (ns : List NeededSecret) → first_wrong_secret s k (n ∷ ns) (tree_at trees left) ≡ first_of (if v then None else Some n.first) (first_wrong_secret s k ns more)
            opened_test ns =
                opened_pair ns
                ∙ ap₂ (λ c d. first_of (if c then (if d then None else Some n.first) else Some (least n.first x.first)) (first_wrong_secret s k ns more)) j (sym m)

            pub is_unproved : v ≡ false → Goes s k trees left left (Some n.first) (n ∷ []) []
            is_unproved r ns = opened_test ns ∙ ap (λ d. first_of (if d then None else Some n.first) (first_wrong_secret s k ns more)) r

            pub is_met : v ≡ true → (new : Option NodeId) → tree_at trees new ≡ more → Goes s k trees left new None (n ∷ []) []
            is_met r new u ns =
                opened_test ns
                ∙ ap₂ (λ d t. first_of (if d then None else Some n.first) (first_wrong_secret s k ns t)) r (sym u)

pub secret_countable : (part : Tree) (i : SecretItems) → items_of_secret part ≡ Some i → IsCountablePart part → IsCountable i.by
secret_countable (Node SecretPair p (Node h q by)) i e n = let f : by ≡ i.by = cc in subst IsCountable f n
secret_countable part i e n = absurd (let z : ◌≡◌ {A = Option SecretItems} None (Some i) = e in cc)
