-- How a cryptographic step is refused by the code.
use Rattle.std.specs.Prelude.{◌≡◌, ℕ, Bool, false, true, Option, Some}
use Rattle.cv_pool.specs.declared.pool.PoolError.{PoolError}
use Rattle.cv_pool.specs.declared.pool.PoolError.TheVariants as pool
use Rattle.cv_syntax.specs.declared.work.BuildError.TheVariants as build
use Rattle.cv_match.specs.declared.fault.MatchFault.{MatchFault}
use Rattle.cv_match.specs.declared.fault.MatchFault.TheVariants as match
use Rattle.cv_steps_laws.specs.crypto.Conditions.{Failure, failed}
use Rattle.cv_kernel_crypto.specs.declared.fault.CryptoFault.{CryptoFault}
use Rattle.cv_kernel_crypto.specs.declared.fault.CryptoFault.TheVariants as crypto

abbrev pub fault_of : MatchFault → CryptoFault
fault_of match.NotOneSite = crypto.Refused (record { condition = 1; place = 0 })
fault_of (match.Use p) = crypto.Refused (record { condition = 2; place = p })
fault_of (match.InCondition p) = crypto.Refused (record { condition = 3; place = p })
fault_of (match.CoinUse p) = crypto.Refused (record { condition = 4; place = p })
fault_of (match.KeyInArgument p) = crypto.Refused (record { condition = 5; place = p })
fault_of match.OutOfMemory = crypto.Build build.OutOfMemory

-- the step is refused by this condition; want of memory says nothing
abbrev pub IsRefused : Option Failure → CryptoFault → Type 0
IsRefused failure (crypto.Refused f) = failure ≡ Some (failed f.condition f.place)
IsRefused failure (crypto.Build build.OutOfMemory) = Unit {0}
IsRefused failure (crypto.Build e) = ⊥

-- a fault of the pool
abbrev pub of_pool : PoolError → CryptoFault
of_pool (pool.Full need) = crypto.Build (build.Full need)
of_pool pool.OutOfMemory = crypto.Build build.OutOfMemory

-- a tree is no next game by this test: condition 9; want of memory says nothing
abbrev pub IsNoNext : Bool → CryptoFault → Type 0
IsNoNext is_next (crypto.Refused f) = (f ≡ record { condition = 9; place = 0 }) × (is_next ≡ false)
IsNoNext is_next (crypto.Build build.OutOfMemory) = Unit {0}
IsNoNext is_next (crypto.Build e) = ⊥

-- a query asks for the secrecy of a name without values, where this says so: condition 9
abbrev pub IsNotKept : Bool → CryptoFault → Type 0
IsNotKept asks (crypto.Refused f) = (f ≡ record { condition = 9; place = 0 }) × (asks ≡ true)
IsNotKept asks (crypto.Build build.OutOfMemory) = Unit {0}
IsNotKept asks (crypto.Build e) = ⊥
