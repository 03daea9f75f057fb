-- Where each net is driven once: what drives it, and that inputs, tables and latches drive no more than nets.
use Rattle.std.proofs.Common.{◌≡◌, ◌≤◌, Bool, true, false, List, refl, sym, subst, length, arith}
use Rattle.circuit.specs.declared.parts.Driver.{Driver}
use Rattle.circuit.specs.declared.parts.Driver.TheVariants.{Input, Table as FromTable, Latch as FromLatch}
use Rattle.fm_base.specs.Names.{Name, is_one_of, has_repeat}
use Rattle.net_names.specs.Nets.{driver_of}
use Rattle.net_names.specs.Driven.{all_drivers, drives, name_count, IsDrivenBy, IsDrivenOnce}
use Rattle.net_names.proofs.Driven.{driver-is, driver-listed, drives-counted, entry-counted}
use Rattle.net_names.proofs.Few.{no_more}
use Rattle.net_names.proofs.Times.{once_no_repeat, place, place-found, times-found, times-none, times-once, times-there}

-- where the names that are driven, by whatever, differ and are the nets, each net is driven once
pub driven-once : (nets inputs tables latches driven : List Name)
    → ((name : Name) → name_count name driven ≡ drives inputs tables latches name)
    → has_repeat nets ≡ false → has_repeat driven ≡ false → ((name : Name) → is_one_of nets name ≡ true → is_one_of driven name ≡ true)
    → ((name : Name) → is_one_of driven name ≡ true → is_one_of nets name ≡ true) → IsDrivenOnce nets inputs tables latches
driven-once nets inputs tables latches driven count apart once there net = record {
  apart = apart;
  most = λ name. omega (arith, times-once name driven once, count name);
  least = λ name is. omega (arith, times-found name driven (there name is), count name);
  net = λ name h. net name (times-there name driven (omega (arith, count name, h)));
}

-- a name is driven by the driver that is found for it
abbrev IsDriven : (inputs tables latches : List Name) → Name → Type 0
IsDriven inputs tables latches name = IsDrivenBy inputs tables latches name (driver_of (all_drivers inputs tables latches) name)

module _ (nets inputs tables latches : List Name) (once : IsDrivenOnce nets inputs tables latches) where
  -- what is driven is a net
  pub driven-net : (name : Name) (d : Driver) → IsDrivenBy inputs tables latches name d → is_one_of nets name ≡ true
  driven-net name d by =
      let at = driver-listed inputs tables latches name d by in
      let some = entry-counted (all_drivers inputs tables latches) at.0 name d at.1 in
      once.net name (omega (arith, drives-counted inputs tables latches name))

  -- which of the three drives a net
  pub driver-by : (name : Name) → is_one_of nets name ≡ true → IsDriven inputs tables latches name
  driver-by name is = by_cases (is_one_of inputs name) (is_one_of tables name) refl refl
    where
      this : (d : Driver) → IsDrivenBy inputs tables latches name d → IsDriven inputs tables latches name
      this d by = subst (IsDrivenBy inputs tables latches name) (sym (driver-is inputs tables latches name d (once.most name) by)) by

      by_cases : (a b : Bool) → is_one_of inputs name ≡ a → is_one_of tables name ≡ b → IsDriven inputs tables latches name
      by_cases true b e f = this (Input (place inputs name)) (place-found inputs name e)
      by_cases false true e f = this (FromTable (place tables name)) (place-found tables name f)
      by_cases false false e f =
          let last = times-there name latches (omega (arith, once.least name is, times-none name inputs e, times-none name tables f)) in
          this (FromLatch (place latches name)) (place-found latches name last)

  -- two names of one driver are one name
  pub one-name : (a b : Name) (d : Driver) → IsDrivenBy inputs tables latches a d → IsDrivenBy inputs tables latches b d → a ≡ b
  one-name a b (Input k) p q = cc
  one-name a b (FromTable k) p q = cc
  one-name a b (FromLatch k) p q = cc

  few : (names : List Name) → ((name : Name) → name_count name names ≤ drives inputs tables latches name) → length names ≤ length nets
  few names some = no_more names nets (once_no_repeat names (λ name. omega (arith, some name, once.most name)))
      (λ name e. once.net name (omega (arith, some name, times-found name names e)))

  -- inputs, tables and latches are no more than nets
  pub few-inputs : length inputs ≤ length nets
  few-inputs = few inputs (λ name. omega arith)

  pub few-tables : length tables ≤ length nets
  few-tables = few tables (λ name. omega arith)

  pub few-latches : length latches ≤ length nets
  few-latches = few latches (λ name. omega arith)
