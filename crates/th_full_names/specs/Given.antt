-- The first name after `uses` or `implements` that is not that of an interface, where there is one.
use Rattle.std.specs.Prelude.{◌≡◌, Option, Some, None}
use Rattle.th_type.specs.Failures.{place}
use Rattle.th_rules.specs.Cores.{name_at}
use Rattle.th_module_rules.specs.Stages.{Program}
use Rattle.th_module_rules.specs.Texts.{AllGiven, UsedName}
use Rattle.th_module_rules.specs.Refusals.{IsMissing}
use Rattle.th_full_names.specs.declared.given.Missing.{Missing}

-- all names are given, or this is the first that is not, with its place
abbrev pub AreDemanded : Program → Option Missing → Type 0
AreDemanded p None = AllGiven p
AreDemanded p (Some m) = (u : UsedName) × IsMissing p u × (m.place ≡ place u.text u.name.at) × (m.name ≡ name_at p.table u.name.name)
