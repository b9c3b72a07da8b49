-- A phrase of files is spelled in a script by the same signs, whichever words of scripts its names are.
use Rattle.std.proofs.Common.{◌≡◌, ℕ, zero, suc, Bool, true, false, ◌&&◌, ◌||◌, List, [], ◌∷◌, ◌++◌, map, Some, None, inl, inr, refl, ap, ap₂, sym, ◌∙◌}
use Rattle.std.proofs.lemmas.List.{length-map, map-append}
use Rattle.cv_syntax_trees.proofs.lists.Tests.{and_first, and_second}
use Rattle.cv_syntax_trees.specs.Tree.{Tree}
use Rattle.cv_parse_notation.specs.declared.script.ScriptWord.{ScriptWord}
use Rattle.cv_parse_notation.specs.declared.sign.Sign.{Sign}
use Rattle.cv_parse_notation.specs.declared.sign.Sign.TheVariants as token
use Rattle.cv_parse_notation.specs.Form.{sign, script_word, word, number, nought, find_word, unnamed, other, note, both, may, many, either, made, level, deeper}
use Rattle.cv_parse_notation.specs.Spells.{Kind, AWord, kind_of, is_other, may_vanish, starts, starts_both, next_is, Relation, used, Perhaps, Each, Spells, IsSort, no_sort}
use Rattle.cv_parse_grammar.specs.declared.role.Role.{Role}
use Rattle.cv_parse_grammar.specs.Marks.{marked_rule}
use Rattle.cv_parse_grammar.specs.Phrases.{Phrase, Sort, Term, Conjunction, Primary, Unequal, Arguments, Subscript, Parentheses, Inputs, Input, Output, Pattern, Sending, Payload, Variables, Indices, ProcessBranch, Cells, OneCell, Body, BodyBranch, LeftFunction, RightFunction, RightRest, RightSide, Braces}
use Rattle.cv_parse_grammar.specs.Names.{Uses}
use Rattle.cv_parse_grammar.specs.Rules.{heads, rule}
use Rattle.cv_parse_tables.specs.declared.piece.Outer.{Outer}
use Rattle.cv_parse_tables.specs.declared.piece.Outer.TheVariants as outer
use Rattle.cv_parse_tables.specs.Table.{Table, TableSort, OfFiles, carried, outer_form, table_heads, table_rule}
use Rattle.cv_parse_tables.proofs.Carrying.{carried_starts}
use Rattle.cv_print_scripts.specs.steps.Shown.{Words, spoken}

-- no word of a script is asked for
abbrev pub is_quiet : {A : Type 0} → Phrase A → Bool
is_quiet (script_word w) = false
is_quiet (both f g) = is_quiet f && is_quiet g
is_quiet (may near f) = is_quiet f
is_quiet (many near f) = is_quiet f
is_quiet (either f g) = is_quiet f && is_quiet g
is_quiet (made v f) = is_quiet f
is_quiet (level f) = is_quiet f
is_quiet f = true

rules_are_quiet : (s : Sort) → is_quiet (rule s) ≡ true
rules_are_quiet Term = refl
rules_are_quiet Conjunction = refl
rules_are_quiet Primary = refl
rules_are_quiet Unequal = refl
rules_are_quiet Arguments = refl
rules_are_quiet Subscript = refl
rules_are_quiet Parentheses = refl
rules_are_quiet Inputs = refl
rules_are_quiet Input = refl
rules_are_quiet Output = refl
rules_are_quiet Pattern = refl
rules_are_quiet Sending = refl
rules_are_quiet Payload = refl
rules_are_quiet Variables = refl
rules_are_quiet Indices = refl
rules_are_quiet ProcessBranch = refl
rules_are_quiet Cells = refl
rules_are_quiet OneCell = refl
rules_are_quiet Body = refl
rules_are_quiet BodyBranch = refl
rules_are_quiet LeftFunction = refl
rules_are_quiet RightFunction = refl
rules_are_quiet RightRest = refl
rules_are_quiet RightSide = refl
rules_are_quiet Braces = refl

marked_rules_are_quiet : (s : Sort) → is_quiet (marked_rule s) ≡ true
marked_rules_are_quiet Term = refl
marked_rules_are_quiet Conjunction = refl
marked_rules_are_quiet Primary = refl
marked_rules_are_quiet Unequal = refl
marked_rules_are_quiet Arguments = refl
marked_rules_are_quiet Subscript = refl
marked_rules_are_quiet Parentheses = refl
marked_rules_are_quiet Inputs = refl
marked_rules_are_quiet Input = refl
marked_rules_are_quiet Output = refl
marked_rules_are_quiet Pattern = refl
marked_rules_are_quiet Sending = refl
marked_rules_are_quiet Payload = refl
marked_rules_are_quiet Variables = refl
marked_rules_are_quiet Indices = refl
marked_rules_are_quiet ProcessBranch = refl
marked_rules_are_quiet Cells = refl
marked_rules_are_quiet OneCell = refl
marked_rules_are_quiet Body = refl
marked_rules_are_quiet BodyBranch = refl
marked_rules_are_quiet LeftFunction = refl
marked_rules_are_quiet RightFunction = refl
marked_rules_are_quiet RightRest = refl
marked_rules_are_quiet RightSide = refl
marked_rules_are_quiet Braces = refl

-- it begins with any identifier or with none

both_alike : (a : Bool) (p q : Kind → Bool) (j k : Kind) → p j ≡ p k → q j ≡ q k → starts_both a p q j ≡ starts_both a p q k
both_alike true p q j k e f = ap₂ ◌||◌ e f
both_alike false p q j k e f = e

module _ (h : Sort → Kind → Bool) (v w : ScriptWord) (same : (s : Sort) → h s (AWord v) ≡ h s (AWord w)) where
  begins_alike : {A : Type 0} (f : Phrase A) → is_quiet f ≡ true → starts h f (AWord v) ≡ starts h f (AWord w)
  begins_alike (sign m) q = refl
  begins_alike (script_word u) q = absurd (cc)
  begins_alike (word r) q = refl
  begins_alike number q = refl
  begins_alike nought q = refl
  begins_alike find_word q = refl
  begins_alike (unnamed r) q = refl
  begins_alike other q = refl
  begins_alike (note r) q = refl
  begins_alike (both f g) q = both_alike (may_vanish f) (starts h f) (starts h g) (AWord v) (AWord w) (begins_alike f (and_first (is_quiet f) (is_quiet g) q)) (begins_alike g (and_second (is_quiet f) (is_quiet g) q))
  begins_alike (may near f) q = begins_alike f q
  begins_alike (many near f) q = begins_alike f q
  begins_alike (either f g) q = ap₂ ◌||◌ (begins_alike f (and_first (is_quiet f) (is_quiet g) q)) (begins_alike g (and_second (is_quiet f) (is_quiet g) q))
  begins_alike (made k f) q = begins_alike f q
  begins_alike (level f) q = begins_alike f q
  begins_alike (deeper s) q = same s

heads_alike : (v w : ScriptWord) (s : Sort) → heads s (AWord v) ≡ heads s (AWord w)
heads_alike v w s = begins_alike (λ s k. false) v w (λ s. refl) (rule s) (rules_are_quiet s)

module _ (words : Words) (table : Table) where
  abbrev say : List Sign → List Sign
  say ts = map (spoken words) ts

  pub next_alike : {A : Type 0} (f : Phrase A) → is_quiet f ≡ true → (ts : List Sign) → next_is (starts (table_heads table) (carried f)) (say ts) ≡ next_is (starts heads f) ts
  next_alike f q [] = refl
  next_alike f q (token.Word x w ∷ ts) = carried_starts table 8 f (AWord (words.script x)) ∙ begins_alike heads (words.script x) w (heads_alike (words.script x) w) f q
  next_alike f q (token.Number v ∷ ts) = carried_starts table 8 f (kind_of (token.Number v))
  next_alike f q (token.Find k ∷ ts) = carried_starts table 8 f (kind_of (token.Find k))
  next_alike f q (token.Unnamed x ∷ ts) = carried_starts table 8 f (kind_of (token.Unnamed x))
  next_alike f q (token.Mark m ∷ ts) = carried_starts table 8 f (kind_of (token.Mark m))

  other_alike : (t : Sign) → is_other (kind_of t) ≡ true → is_other (kind_of (spoken words t)) ≡ true
  other_alike (token.Word x w) e = refl
  other_alike (token.Number v) e = e
  other_alike (token.Find k) e = e
  other_alike (token.Unnamed x) e = e
  other_alike (token.Mark m) e = e

  used_alike : (r : Role) (x : ℕ) (ts : List Sign) → used r x ts ≡ used r x (say ts)
  used_alike r x ts = ap (λ n. record { role = r; name = x; left = n } ∷ []) (sym (length-map ts (spoken words)))

  -- one relation implies another of the same signs as a script has them
  abbrev Says : {A : Type 0} → Relation Role A → Relation Role A → Type 0
  Says {A} P Q = (ts : List Sign) (a : A) (us : Uses) (rest : List Sign) → P ts a us rest → Q (say ts) a us (say rest)

  perhaps_says : {A : Type 0} (P Q : Relation Role A) (near : Bool) (k l : Kind → Bool) → ((ts : List Sign) → next_is l (say ts) ≡ next_is k ts) → Says P Q → Says (Perhaps P near k) (Perhaps Q near l)
  perhaps_says P Q near k l e up ts None us rest d = (record { tokens = ap say d.0.tokens; uses = d.0.uses }, λ i. e ts ∙ d.1 i)
  perhaps_says P Q near k l e up ts (Some a) us rest d = up ts a us rest d

  each_says : {A : Type 0} (P Q : Relation Role A) (near : Bool) (k l : Kind → Bool) → ((ts : List Sign) → next_is l (say ts) ≡ next_is k ts) → Says P Q → Says (Each P near k) (Each Q near l)
  each_says P Q near k l e up ts [] us rest d = (record { tokens = ap say d.0.tokens; uses = d.0.uses }, λ i. e ts ∙ d.1 i)
  each_says P Q near k l e up ts (a ∷ more) us rest d = record { mid = say d.mid; front = d.front; back = d.back; first = up ts a d.front d.mid d.first; second = each_says P Q near k l e up d.mid more d.back rest d.second; uses = d.uses }

  module _ (room : Bool) (B : Sort → Relation Role Tree) (C : TableSort → Relation Role Tree) (up : (s : Sort) → Says (B s) (C (OfFiles s))) where
    pub is_said : {A : Type 0} (f : Phrase A) → is_quiet f ≡ true → Says (Spells heads room B f) (Spells (table_heads table) room C (carried f))
    is_said (sign m) q ts a us rest d = record { tokens = ap say d.tokens; uses = d.uses }
    is_said (script_word w) q ts a us rest d = absurd (cc)
    is_said (word r) q ts a us rest d = record { script = words.script a; tokens = ap say d.tokens; uses = d.uses ∙ used_alike r a ts }
    is_said number q ts a us rest d = record { tokens = ap say d.tokens; uses = d.uses }
    is_said nought q ts a us rest d = record { tokens = ap say d.tokens; uses = d.uses }
    is_said find_word q ts a us rest d = record { tokens = ap say d.tokens; uses = d.uses }
    is_said (unnamed r) q ts a us rest d = record { tokens = ap say d.tokens; uses = d.uses ∙ used_alike r a ts }
    is_said other q ts a us rest d = (spoken words d.0, other_alike d.0 d.1, record { tokens = ap say d.2.tokens; uses = d.2.uses })
    is_said (note r) q ts a us rest d = (d.0 ∙ sym (length-map ts (spoken words)), record { tokens = ap say d.1.tokens; uses = d.1.uses ∙ used_alike r 0 ts })
    is_said (both f g) q ts a us rest d = record { mid = say d.mid; front = d.front; back = d.back; first = is_said f (and_first (is_quiet f) (is_quiet g) q) ts a.0 d.front d.mid d.first; second = is_said g (and_second (is_quiet f) (is_quiet g) q) d.mid a.1 d.back rest d.second; uses = d.uses }
    is_said (may near f) q ts a us rest d = perhaps_says (Spells heads room B f) (Spells (table_heads table) room C (carried f)) near (starts heads f) (starts (table_heads table) (carried f)) (next_alike f q) (is_said f q) ts a us rest d
    is_said (many near f) q ts a us rest d = each_says (Spells heads room B f) (Spells (table_heads table) room C (carried f)) near (starts heads f) (starts (table_heads table) (carried f)) (next_alike f q) (is_said f q) ts a us rest d
    is_said (either f g) q ts a us rest d =
        let i = and_first (is_quiet f) (is_quiet g) q in
        let j = and_second (is_quiet f) (is_quiet g) q in
        elim d as (λ _. Spells (table_heads table) room C (carried (either f g)) (say ts) a us (say rest)) [ inl e ↦ inl (is_said f i ts a us rest e) | inr e ↦ inr (next_alike f i ts ∙ e.0, is_said g j ts a us rest e.1) ]
    is_said (made v f) q ts a us rest d = (d.0, is_said f q ts d.0 us rest d.1, d.2)
    is_said (level f) q ts a us rest d = (d.0, is_said f q ts a us rest d.1)
    is_said (deeper s) q ts a us rest d = up s ts a us rest d

  pub sort_is_said : (n : ℕ) (s : Sort) → Says (IsSort heads marked_rule n s) (IsSort (table_heads table) (table_rule table) n (OfFiles s))
  unfolding IsSort
  sort_is_said zero s ts a us rest d = is_said false no_sort no_sort (λ s ts a us rest e. absurd e) (marked_rule s) (marked_rules_are_quiet s) ts a us rest d
  sort_is_said (suc n) s ts a us rest d = is_said true (IsSort heads marked_rule n) (IsSort (table_heads table) (table_rule table) n) (sort_is_said n) (marked_rule s) (marked_rules_are_quiet s) ts a us rest d

  pub said_append : (ss rest : List Sign) → say rest ≡ rest → say (ss ++ rest) ≡ say ss ++ rest
  said_append ss rest e = map-append (spoken words) ss rest ∙ ap (λ l. say ss ++ l) e

pub outers_are_quiet : (p : Outer) → is_quiet (outer_form p) ≡ true
outers_are_quiet outer.Term = refl
outers_are_quiet outer.Terms = refl
outers_are_quiet outer.InnerTerm = refl
outers_are_quiet outer.InnerSubscript = refl
outers_are_quiet outer.Cell = refl
outers_are_quiet outer.InnerCell = refl
