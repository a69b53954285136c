mod LeadsTo
