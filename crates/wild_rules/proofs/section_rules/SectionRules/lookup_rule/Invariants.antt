use Rattle.wild_rules.proofs.section_rules.SectionRules.lookup_rule.Given as goal

abbrev pub ghosts-lookup_rule_apart : goal.ghosts-lookup_rule_apart
ghosts-lookup_rule_apart a = record { name = a.blank.name; parts = a.blank.parts }
