-- What is computed of tokens, and what they say.
use Rattle.std.proofs.Common.{◌≡◌, ℕ, ◌-◌, ◌≤◌, true, false, Bool, nat_lt, if◌then◌else◌, List, ◌∷◌, length, refl, ap, ap₂, subst, sym, ◌∙◌, arith, Option, Some, None, Result, Ok, Err}
use Rattle.std.proofs.lemmas.Bool.Decides.{nat_tests}
use Rattle.std.proofs.lemmas.Bool.{le-ltb}
use Rattle.cv_syntax.specs.declared.work.BuildError.{BuildError}
use Rattle.cv_syntax.specs.declared.work.BuildError.TheVariants as build
use Rattle.cv_syntax_trees.specs.Tree.{depth, size}
use Rattle.cv_parse_notation.specs.declared.sign.Sign.{Sign}
use Rattle.cv_parse_notation.specs.Reads.{Fault, Read}
use Rattle.cv_parse_notation.specs.Reads as fault
use Rattle.cv_parse_notation.proofs.Whole.{syntax_is_final}
use Rattle.cv_parse_grammar.specs.declared.role.Role.{Role}
use Rattle.cv_parse_grammar.specs.Files.{levels, read_whole}
use Rattle.cv_parse_grammar.specs.Names.{NameFault, name_fault}
use Rattle.cv_parse_grammar.specs.Names as names
use Rattle.cv_parse_grammar.specs.Rules.{File, file, heads, rule, tails}
use Rattle.cv_parse_grammar.specs.Whole.{Content, Misnamed, Refusal, Unread, built_in, outcome, outcome_of, unless}
use Rattle.cv_parse_grammar.proofs.Fitting.{all_fit, file_fits}
use Rattle.cv_parse_grammar.proofs.Outcome.{accepted_is_read, read_is_accepted, refused_is_misnamed}
use Rattle.cv_parse.specs.declared.error.ParseError.{ParseError}
use Rattle.cv_parse.specs.declared.error.ParseError.TheVariants.{Syntax, Nesting, NameTwice, NameUnknown, Build}
use Rattle.cv_parse.specs.Parsed.{Parsed, limited, of_fault, of_name, of_outcome, parsed, said, sized_first, weight_of}
use Rattle.cv_syntax.specs.limits.Limits.{most_depth, most_nodes}
use Rattle.cv_parse.specs.Says.{HasDepth, HasNodes, HasWeight, IsDead, IsLarge, IsMisnamedAt, Says}
use Rattle.cv_parse.specs.Weights.{asked, capped}

-- the limits, one after another
abbrev Limits : (limit : ℕ) → Parsed → Result Parsed ParseError → Type 0
Limits limit p (Ok q) = (p ≡ q) × (size p.game ≤ most_nodes) × (depth p.game ≤ most_depth) × (asked (weight_of p) ≤ limit)
Limits limit p (Err (Build (build.Nodes n))) = HasNodes n p
Limits limit p (Err (Build (build.Depth n))) = HasDepth n p
Limits limit p (Err (Build (build.Full n))) = HasWeight limit n p
Limits limit p (Err e) = ⊥

abbrev limited_by : Parsed → Bool → Bool → Bool → Result Parsed ParseError
limited_by p a b c =
    if a then Err (Build (build.Nodes (capped (size p.game))))
    else if b then Err (Build (build.Depth (capped (depth p.game))))
    else if c then Err (Build (build.Full (asked (weight_of p))))
    else Ok p

one_by_one : (limit : ℕ) (p : Parsed) (a b c : Bool) → nat_lt most_nodes (size p.game) ≡ a → nat_lt most_depth (depth p.game) ≡ b → nat_lt limit (asked (weight_of p)) ≡ c → limited limit p ≡ limited_by p a b c
one_by_one limit p true b c e f g = ap (λ x. sized_first limit p (if x then Err (Build (build.Nodes (capped (size p.game)))) else if nat_lt most_depth (depth p.game) then Err (Build (build.Depth (capped (depth p.game)))) else Ok tt)) e
one_by_one limit p false b c e f g =
    ap (λ x. sized_first limit p (if x then Err (Build (build.Nodes (capped (size p.game)))) else if nat_lt most_depth (depth p.game) then Err (Build (build.Depth (capped (depth p.game)))) else Ok tt)) e
    ∙ (ap (λ x. sized_first limit p (if x then Err (Build (build.Depth (capped (depth p.game)))) else Ok tt)) f ∙ roomy b)
  where
    roomy : (b : Bool) → sized_first limit p (if b then Err (Build (build.Depth (capped (depth p.game)))) else Ok tt) ≡ limited_by p false b c
    roomy true = refl
    roomy false = ap (λ x. if x then Err (Build (build.Full (asked (weight_of p)))) else Ok p) g

told : (limit : ℕ) (p : Parsed) (a b c : Bool) → nat_lt most_nodes (size p.game) ≡ a → nat_lt most_depth (depth p.game) ≡ b → nat_lt limit (asked (weight_of p)) ≡ c → Limits limit p (limited_by p a b c)
told limit p true b c e f g = (grind (arith, nat_tests), refl)
told limit p false true c e f g = (grind (arith, nat_tests), refl)
told limit p false false true e f g = (grind (arith, nat_tests), refl)
told limit p false false false e f g = (refl, grind (arith, nat_tests), grind (arith, nat_tests), grind (arith, nat_tests))

are_limited : (limit : ℕ) (p : Parsed) (r : Result Parsed ParseError) → limited limit p ≡ r → Limits limit p r
are_limited limit p r i =
    subst (Limits limit p) (sym (one_by_one limit p (nat_lt most_nodes (size p.game)) (nat_lt most_depth (depth p.game)) (nat_lt limit (asked (weight_of p))) refl refl refl) ∙ i)
    (told limit p (nat_lt most_nodes (size p.game)) (nat_lt most_depth (depth p.game)) (nat_lt limit (asked (weight_of p))) refl refl refl)

-- the stages, by the outcome of reading

no_fault_is : (n : ℕ) (f : Fault) (p : Parsed) → (let r : Result Parsed ParseError = Err (of_fault n f) in r) ≡ Ok p → ⊥
no_fault_is n f p e = cc

no_name_is : (n : ℕ) (f : NameFault) (p : Parsed) → (let r : Result Parsed ParseError = Err (of_name n f) in r) ≡ Ok p → ⊥
no_name_is n f p e = cc

is_content : (limit : ℕ) (signs : List Sign) (p : Parsed) (o : Result Content Refusal) → outcome signs ≡ o → of_outcome limit (length signs) o ≡ Ok p → Says limit signs p
is_content limit signs p (Ok c) e i =
    let l = are_limited limit (said (length signs) c) (Ok p) i in
    subst (Says limit signs) l.0 (record {
      decls = c.0;
      script = c.1.0;
      read = accepted_is_read signs c.0 c.1.0 c.1.1 e;
      declared = refl;
      range = refl;
      small = l.1;
      shallow = l.2;
      room = l.3;
    })
is_content limit signs p (Err (Unread f)) e i = absurd (no_fault_is (length signs) f p i)
is_content limit signs p (Err (Misnamed f)) e i = absurd (no_name_is (length signs) f p i)

pub said_is_saying : (limit : ℕ) (signs : List Sign) (p : Parsed) → parsed limit signs ≡ Ok p → Says limit signs p
unfolding parsed
said_is_saying limit signs p e = is_content limit signs p (outcome signs) refl e

pub says_is_said : (limit : ℕ) (signs : List Sign) (p : Parsed) → Says limit signs p → parsed limit signs ≡ Ok p
unfolding parsed
says_is_said limit signs p w =
    ap (of_outcome limit (length signs)) (read_is_accepted signs w.decls w.script p.game w.read)
    ∙ (ap (limited limit) same ∙ one_by_one limit p false false false (le-ltb most_nodes (size p.game) w.small) (le-ltb most_depth (depth p.game) w.shallow) (le-ltb limit (asked (weight_of p)) w.room))
  where
    same : said (length signs) (w.decls, (w.script, p.game)) ≡ p
    same = ap₂ (λ ds s. record { declarations = ds; script = s; game = p.game }) (sym w.declared) (sym w.range)

-- a token that no file goes through

unread_is : (limit n token : ℕ) (f : Fault) → of_outcome limit n (Err (Unread f)) ≡ Err (Syntax token) → (left : ℕ) × (f ≡ fault.Syntax left) × (token ≡ n - left)
unread_is limit n token (fault.Syntax left) e = (left, refl, cc)
unread_is limit n token (fault.Nesting left) e = absurd (cc)

no_unread : (o : Option NameFault) (v : File) (f : Fault) → unless o v ≡ Err (Unread f) → ⊥
no_unread None v f e = cc
no_unread (Some g) v f e = cc

reading_fault : (r : Read Role File) (f : Fault) → outcome_of r ≡ Err (Unread f) → r ≡ Err f
reading_fault (Err e) f i = let same : e ≡ f = cc in ap (λ z. let q : Read Role File = Err z in q) same
reading_fault (Ok x) f i = absurd (no_unread (name_fault (built_in ∷ x.uses)) x.value f i)

no_limit_is_syntax : (limit token : ℕ) (p : Parsed) → limited limit p ≡ Err (Syntax token) → ⊥
no_limit_is_syntax limit token p e = are_limited limit p (Err (Syntax token)) e

dead_by : (limit : ℕ) (signs : List Sign) (token : ℕ) (o : Result Content Refusal) → outcome signs ≡ o → of_outcome limit (length signs) o ≡ Err (Syntax token) → IsDead signs token
dead_by limit signs token (Ok c) e i = absurd (no_limit_is_syntax limit token (said (length signs) c) i)
dead_by limit signs token (Err (Unread f)) e i =
    let u = unread_is limit (length signs) token f i in
    record { left = u.0; at = u.2; dead = syntax_is_final heads tails rule all_fit file file_fits refl levels signs u.0 (reading_fault (read_whole levels signs) f e ∙ ap (λ z. let q : Read Role File = Err z in q) u.1) }
dead_by limit signs token (Err (Misnamed f)) e i = absurd (not_syntax f i)
  where
    not_syntax : (f : NameFault) → (let r : Result Parsed ParseError = Err (of_name (length signs) f) in r) ≡ Err (Syntax token) → ⊥
    not_syntax (names.NameTwice left) j = cc
    not_syntax (names.NameUnknown left) j = cc

pub dead_token : (limit : ℕ) (signs : List Sign) (token : ℕ) → parsed limit signs ≡ Err (Syntax token) → IsDead signs token
unfolding parsed
dead_token limit signs token e = dead_by limit signs token (outcome signs) refl e

-- a token that stands too deep

deep_by : (limit : ℕ) (signs : List Sign) (token : ℕ) (o : Result Content Refusal) → outcome signs ≡ o → of_outcome limit (length signs) o ≡ Err (Nesting token) → (left : ℕ) × (token ≡ length signs - left) × (read_whole levels signs ≡ Err (fault.Nesting left))
deep_by limit signs token (Ok c) e i = absurd (are_limited limit (said (length signs) c) (Err (Nesting token)) i)
deep_by limit signs token (Err (Unread (fault.Syntax left))) e i = absurd (cc)
deep_by limit signs token (Err (Unread (fault.Nesting left))) e i = (left, cc, reading_fault (read_whole levels signs) (fault.Nesting left) e)
deep_by limit signs token (Err (Misnamed (names.NameTwice left))) e i = absurd (cc)
deep_by limit signs token (Err (Misnamed (names.NameUnknown left))) e i = absurd (cc)

pub deep_token : (limit : ℕ) (signs : List Sign) (token : ℕ) → parsed limit signs ≡ Err (Nesting token) → (left : ℕ) × (token ≡ length signs - left) × (read_whole levels signs ≡ Err (fault.Nesting left))
unfolding parsed
deep_token limit signs token e = deep_by limit signs token (outcome signs) refl e

-- names

twice_by : (limit : ℕ) (signs : List Sign) (token : ℕ) (o : Result Content Refusal) → outcome signs ≡ o → of_outcome limit (length signs) o ≡ Err (NameTwice token) → IsMisnamedAt signs names.NameTwice token
twice_by limit signs token (Ok c) e i = absurd (are_limited limit (said (length signs) c) (Err (NameTwice token)) i)
twice_by limit signs token (Err (Unread (fault.Syntax left))) e i = absurd (cc)
twice_by limit signs token (Err (Unread (fault.Nesting left))) e i = absurd (cc)
twice_by limit signs token (Err (Misnamed (names.NameTwice left))) e i = record { left = left; at = cc; misnamed = refused_is_misnamed signs (names.NameTwice left) e }
twice_by limit signs token (Err (Misnamed (names.NameUnknown left))) e i = absurd (cc)

pub twice_named : (limit : ℕ) (signs : List Sign) (token : ℕ) → parsed limit signs ≡ Err (NameTwice token) → IsMisnamedAt signs names.NameTwice token
unfolding parsed
twice_named limit signs token e = twice_by limit signs token (outcome signs) refl e

unknown_by : (limit : ℕ) (signs : List Sign) (token : ℕ) (o : Result Content Refusal) → outcome signs ≡ o → of_outcome limit (length signs) o ≡ Err (NameUnknown token) → IsMisnamedAt signs names.NameUnknown token
unknown_by limit signs token (Ok c) e i = absurd (are_limited limit (said (length signs) c) (Err (NameUnknown token)) i)
unknown_by limit signs token (Err (Unread (fault.Syntax left))) e i = absurd (cc)
unknown_by limit signs token (Err (Unread (fault.Nesting left))) e i = absurd (cc)
unknown_by limit signs token (Err (Misnamed (names.NameTwice left))) e i = absurd (cc)
unknown_by limit signs token (Err (Misnamed (names.NameUnknown left))) e i = record { left = left; at = cc; misnamed = refused_is_misnamed signs (names.NameUnknown left) e }

pub unknown_name : (limit : ℕ) (signs : List Sign) (token : ℕ) → parsed limit signs ≡ Err (NameUnknown token) → IsMisnamedAt signs names.NameUnknown token
unfolding parsed
unknown_name limit signs token e = unknown_by limit signs token (outcome signs) refl e

-- limits

no_fault_builds : (n : ℕ) (f : Fault) (b : BuildError) → (let r : Result Parsed ParseError = Err (of_fault n f) in r) ≡ Err (Build b) → ⊥
no_fault_builds n (fault.Syntax left) b e = cc
no_fault_builds n (fault.Nesting left) b e = cc

no_name_builds : (n : ℕ) (f : NameFault) (b : BuildError) → (let r : Result Parsed ParseError = Err (of_name n f) in r) ≡ Err (Build b) → ⊥
no_name_builds n (names.NameTwice left) b e = cc
no_name_builds n (names.NameUnknown left) b e = cc

large_by : (limit : ℕ) (signs : List Sign) (b : BuildError) (Large : Parsed → Type 0) → ((p : Parsed) → Limits limit p (Err (Build b)) → Large p) → (o : Result Content Refusal) → outcome signs ≡ o → of_outcome limit (length signs) o ≡ Err (Build b) → IsLarge signs Large
large_by limit signs b Large h (Ok c) e i = record { decls = c.0; script = c.1.0; game = c.1.1; read = accepted_is_read signs c.0 c.1.0 c.1.1 e; large = h (said (length signs) c) (are_limited limit (said (length signs) c) (Err (Build b)) i) }
large_by limit signs b Large h (Err (Unread f)) e i = absurd (no_fault_builds (length signs) f b i)
large_by limit signs b Large h (Err (Misnamed f)) e i = absurd (no_name_builds (length signs) f b i)

pub large_game : (limit : ℕ) (signs : List Sign) (count : ℕ) → parsed limit signs ≡ Err (Build (build.Nodes count)) → IsLarge signs (HasNodes count)
unfolding parsed
large_game limit signs count e = large_by limit signs (build.Nodes count) (HasNodes count) (λ p l. l) (outcome signs) refl e

pub deep_game : (limit : ℕ) (signs : List Sign) (count : ℕ) → parsed limit signs ≡ Err (Build (build.Depth count)) → IsLarge signs (HasDepth count)
unfolding parsed
deep_game limit signs count e = large_by limit signs (build.Depth count) (HasDepth count) (λ p l. l) (outcome signs) refl e

pub heavy_trees : (limit : ℕ) (signs : List Sign) (need : ℕ) → parsed limit signs ≡ Err (Build (build.Full need)) → IsLarge signs (HasWeight limit need)
unfolding parsed
heavy_trees limit signs need e = large_by limit signs (build.Full need) (HasWeight limit need) (λ p l. l) (outcome signs) refl e
